-- Laws of putting a name, and of the texts of a vector of vectors.
use Rattle.std.proofs.Common.{◌≡◌, ℕ, zero, suc, ◌<◌, ◌≤◌, Bool, true, false, cond, List, [], ◌∷◌, length, get_or, Ok, Err, vec_items, vec_len, Vec, Ordering, Equal, Greater, sym, ap, ◌∙◌, subst, arith}
use Rattle.std.specs.List.{insert}
use Rattle.std.specs.declared.alloc.Global.{Global}
use Rattle.std.proofs.lemmas.Bool.Decides.{nat_tests}
use Rattle.std.proofs.lemmas.List.{length-map, get_or-map}
use Rattle.terms.specs.Compare.{Order}
use Rattle.terms.specs.Terms.{Text}
use Rattle.terms.specs.Orders.{text_order}
use Rattle.terms.specs.declared.refusal.Refusal.TheVariants as refusal
use Rattle.terms.proofs.Lawful.{Lawful}
use Rattle.terms.proofs.LeafLaws.{text_laws}
use Rattle.catalogue.specs.Placed.{pick, placed, stands, rises}
use Rattle.catalogue.specs.Puts.{texts, Puts, Settles}
use Rattle.catalogue.specs.declared.entry.Entry.TheVariants as entry
use Rattle.catalogue.proofs.Places.{rises_placed, stands_among}

-- a member that x equals, and before which all are less: x is not placed again
module _ {A : Type 0} {o : Order A} (w : Lawful o) where
  placed_same : (x : A) (ys : List A) (d : A) (m : ℕ) → m < length ys → ((k : ℕ) → k < m → o x (get_or ys k d) ≡ Greater) → o x (get_or ys m d) ≡ Equal → placed o x ys ≡ ys
  placed_same x [] d m l b e = absurd (omega arith)
  placed_same x (y ∷ ys) d zero l b e = ap (λ (r : Ordering). pick r (x ∷ y ∷ ys) (y ∷ ys) (y ∷ placed o x ys)) e
  placed_same x (y ∷ ys) d (suc m) l b e =
      ap (λ (r : Ordering). pick r (x ∷ y ∷ ys) (y ∷ ys) (y ∷ placed o x ys)) (b 0 (omega arith))
      ∙ ap (λ (r : List A). y ∷ r) (placed_same x ys d m (omega arith) (λ k n. b (suc k) (omega arith)) e)

-- a name that stands is repeated, and nothing changes
pub put_repeated : (ns : List Text) (t : Text) (fits : length t ≤ 512) (after : List Text) → after ≡ ns → stands text_order t ns ≡ true → placed text_order t ns ≡ ns → Puts ns t (Ok entry.Repeated) after
put_repeated ns t fits after a s p = grind (arith, nat_tests, fits, a, s, p)

-- a new name for which memory is wanting is not kept
pub put_unmade : (ns : List Text) (t : Text) (fits : length t ≤ 512) (after : List Text) → stands text_order t ns ≡ false → after ≡ ns → Puts ns t (Err refusal.Memory) after
put_unmade ns t fits after s a = grind (arith, nat_tests, fits, s, a)

pub settles_repeated : (ns : List Text) (t : Text) (after : List Text) → stands text_order t ns ≡ true → after ≡ ns → Settles ns t (Ok entry.Repeated) after
settles_repeated ns t after s a = (stands_among text_laws t ns s, a)

-- what follows still rises, whether or not memory sufficed
pub put_rises : (b : Bool) (ns after : List Text) (i : ℕ) (t : Text) → after ≡ cond b (insert ns i t) ns → placed text_order t ns ≡ insert ns i t → rises text_order ns ≡ true → rises text_order after ≡ true
put_rises true ns after i t a p h = ap (rises text_order) (a ∙ sym p) ∙ rises_placed text_laws t ns h
put_rises false ns after i t a p h = ap (rises text_order) a ∙ h

-- as many texts as vectors
pub texts_len : (v : Vec (Vec ℕ Global) Global) → length (texts v) ≡ vec_len v
texts_len v = length-map (vec_items v) vec_items ∙ sym v.ok.0

-- what is read at i is the text at i
pub text_at : (v : Vec (Vec ℕ Global) Global) (i : ℕ) (e : Vec ℕ Global) → i < vec_len v → e ≡ get_or (vec_items v) i e → get_or (texts v) i [] ≡ vec_items e
text_at v i e l h = get_or-map vec_items (vec_items v) i e [] (subst (λ n. i < n) v.ok.0 l) ∙ ap vec_items (sym h)
