-- The search for the place of a key among pairs whose keys ascend.
use Rattle.std.proofs.Common.{◌≡◌, ℕ, zero, suc, ◌+◌, ◌<◌, ◌≤◌, true, false, List, [], ◌∷◌, length, get_or, Ordering, Less, Greater, sym, refl, ap, ◌∙◌, subst, inl, inr, arith}
use Rattle.std.specs.List.{insert}
use Rattle.std.specs.Ordering.{is_eq, ordering_reverse}
use Rattle.std.proofs.lemmas.Bool.{or_from, cases_order}
use Rattle.std.proofs.lemmas.List.{get_or-map}
use Rattle.terms.specs.Terms.{Text}
use Rattle.terms.specs.Orders.{text_order}
use Rattle.terms.specs.Bank.{Child}
use Rattle.terms.proofs.LeafLaws.{text_laws}
use Rattle.leaves.specs.Values.{read}
use Rattle.model.specs.Checks.{keys_rise}
use Rattle.model.specs.Pairs.{has_key, put_before, with_pair}
use Rattle.pairs.specs.declared.link.Link.{Link}
use Rattle.pairs.specs.Links.{child_of, children_of}
use Rattle.pairs.specs.Entries.{key_at}
use Rattle.pairs.proofs.Laws.{rises_at}

pub onward : (x y z : Text) → text_order x y ≡ Less → text_order y z ≡ Less → text_order x z ≡ Less
onward x y z e f = rw (e, f) at (text_laws.steps x y z)

pub back : (x y z : Text) → text_order x y ≡ Greater → text_order y z ≡ Greater → text_order x z ≡ Greater
back x y z e f = rw (e, f) at (text_laws.steps x y z)

-- the answers the other way round
pub turned : (x y : Text) (r : Ordering) → text_order x y ≡ r → text_order y x ≡ ordering_reverse r
turned x y r e = text_laws.swap x y ∙ ap ordering_reverse e

-- what a comparison with the key s of the link at i says of the pair at i, where ps is how callers see the links
pub asked : (bs : Text) (ls : List Link) (ps : List Child) (k s b : Text) (i : ℕ) (l : Link) (r : Ordering) → children_of bs ls ≡ ps → i < length ls → l ≡ get_or ls i l → b ≡ bs → s ≡ read b l.key → r ≡ text_order k s → text_order k (key_at ps i) ≡ r
asked bs ls ps k s b i l r v h e w t q =
    let of = child_of bs in
    let here : key_at (children_of bs ls) i ≡ read bs l.key = ap (λ (c : Child). c.0) (get_or-map of ls i l ([], 0) h ∙ ap of (sym e)) in
    ap (λ (cs : List Child). text_order k (key_at cs i)) (sym v) ∙ ap (text_order k) (here ∙ ap (λ (u : Text). read u l.key) (sym w) ∙ sym t) ∙ sym q

-- ---- the narrowing of a search for k

-- k is above all keys before the place i
abbrev pub Below : Text → List Child → ℕ → Type 0
Below k ps i = (j : ℕ) → j < i → text_order k (key_at ps j) ≡ Greater

-- k is below all keys from the place i on
abbrev pub Above : Text → List Child → ℕ → Type 0
Above k ps i = (j : ℕ) → i ≤ j → j < length ps → text_order k (key_at ps j) ≡ Less

-- k is below the key at m, and so below all that follow
pub lowered : (k : Text) (ps : List Child) (m : ℕ) → keys_rise ps ≡ true → text_order k (key_at ps m) ≡ Less → Above k ps m
lowered k ps m h e j l n =
    elim (cases_order m j) [
      | inl s ↦ subst (λ (i : ℕ). text_order k (key_at ps i) ≡ Less) s e
      | inr s ↦ elim s [
        | inl t ↦ onward k (key_at ps m) (key_at ps j) e (rises_at ps m j h t n)
        | inr t ↦ absurd (omega arith)
      ]
    ]

-- k is above the key at m, and so above all before it
pub raised : (k : Text) (ps : List Child) (m : ℕ) → keys_rise ps ≡ true → m < length ps → text_order k (key_at ps m) ≡ Greater → Below k ps (m + 1)
raised k ps m h n e j l =
    elim (cases_order j m) [
      | inl s ↦ subst (λ (i : ℕ). text_order k (key_at ps i) ≡ Greater) (sym s) e
      | inr s ↦ elim s [
        | inl t ↦ back k (key_at ps m) (key_at ps j) e (turned (key_at ps j) (key_at ps m) Less (rises_at ps j m h t n))
        | inr t ↦ absurd (omega arith)
      ]
    ]

-- ---- where a search ends

missed : (k : Text) (ps : List Child) → ((j : ℕ) → j < length ps → is_eq (text_order k (key_at ps j)) ≡ false) → has_key k ps ≡ false
missed k [] h = refl
missed k (c ∷ cs) h = or_from (is_eq (text_order k c.0)) (has_key k cs) (h 0 (omega arith)) (missed k cs (λ j l. h (suc j) (omega arith)))

pub absent : (k : Text) (ps : List Child) (i : ℕ) → Below k ps i → Above k ps i → has_key k ps ≡ false
absent k ps i b a = missed k ps (λ j l. elim (cases_order i j) [
  | inl s ↦ ap is_eq (a j (omega arith) l)
  | inr s ↦ elim s [ inl t ↦ ap is_eq (a j (omega arith) l) | inr t ↦ ap is_eq (b j t) ]
])

-- a new pair goes before the first whose key is greater
pub placed_at : (k : Text) (n : ℕ) (ps : List Child) (i : ℕ) → i ≤ length ps → Below k ps i → Above k ps i → with_pair (k, n) ps ≡ insert ps i (k, n)
placed_at k n [] zero l b a = refl
placed_at k n [] (suc i) l b a = absurd (omega arith)
placed_at k n (c ∷ cs) zero l b a = ap (λ (r : Ordering). put_before r (k, n) c cs (with_pair (k, n) cs)) (a 0 (omega arith) (omega arith))
placed_at k n (c ∷ cs) (suc i) l b a =
    ap (λ (r : Ordering). put_before r (k, n) c cs (with_pair (k, n) cs)) (b 0 (omega arith))
    ∙ ap (λ (r : List Child). c ∷ r) (placed_at k n cs i (omega arith) (λ j m. b (suc j) (omega arith)) (λ j m o. a (suc j) (omega arith) (omega arith)))
