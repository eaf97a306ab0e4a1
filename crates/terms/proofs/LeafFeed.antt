-- The feeds of the leaves are prefix codes.
use Rattle.std.proofs.Common.{◌≡◌, ℕ, ◌<◌, ◌≤◌, Bool, true, false, zero, suc, leb, ◌⊎◌, List, [], ◌∷◌, ◌++◌, length, is_some, IfSome, Some, None, Option, sym, refl, ap, ◌∙◌, arith, to_z-of_z, w64, SFits, to_z, of_z}
use mir.Facts.{Fits-of_z}
use Rattle.terms.specs.Terms.{Text, NameS, LiteralS, TypeS, ElemS, Leaf}
use Rattle.terms.specs.Orders.{name_parts, literal_side, elem_side, LeafSides, leaf_side}
use Rattle.terms.specs.Kinds.{sort}
use Rattle.terms.specs.Laws.{Apart}
use Rattle.terms.specs.Formed.{All, TextOk, NameOk, LiteralOk, TypeOk, ElemOk, LeafOk}
use Rattle.terms.specs.Feed.{bytes, feed_text, feed_list, feed_name, bit, feed_literal, feed_maybe, feed_type, feed_elem, feed_leaf}
use Rattle.terms.proofs.Sides.{literal_of, literal_back, elem_of, elem_back, leaf_of, leaf_back}
use Rattle.terms.proofs.Prefix.{Code, Placed, byte, words, pair_code, list_code, text_code, none_code, side_place, last_side, side, tagged, through, placed_through, narrower, option_code}

pub texts : Code TextOk feed_text
texts = narrower text_code TextOk (λ t h. omega arith)

abbrev pub ListOk : {A : Type 0} → (A → Type 0) → List A → Type 0
ListOk P l = (length l ≤ 256) × All P l

pub lists_of : {A : Type 0} {P : A → Type 0} {f : A → List ℕ} → Code P f → Code (ListOk P) (feed_list f)
lists_of {P} c = narrower (list_code c) (ListOk P) (λ l h. (omega arith, h.1))

pub names : Code NameOk feed_name
names = through (pair_code texts (lists_of texts)) NameOk feed_name name_parts (λ p. record { base = p.0; namespaces = p.1 }) (λ n. refl) (λ n. refl) (λ n h. (h.1, (omega arith, h.3)))

bool_of : ℕ → Bool
bool_of zero = false
bool_of (suc n) = true

bool_back : (b : Bool) → bool_of (bit b) ≡ b
unfolding bool_of
bool_back false = refl
bool_back true = refl

bools : Code (λ (b : Bool). Unit {0}) (λ b. bit b ∷ [])
bools = through byte (λ b. Unit {0}) (λ b. bit b ∷ []) bit bool_of bool_back (λ b. refl) (λ b h. h)

longs : Code (SFits w64) (λ z. bytes 8 (of_z w64 z))
longs = record {
  reads = λ x y p q r s e.
      let h = (words 8).reads (of_z w64 x) (of_z w64 y) (Fits-of_z p).fits (Fits-of_z q).fits r s e in
      (sym (to_z-of_z p) ∙ ap (to_z w64) h.0 ∙ to_z-of_z q, h.1);
}

pub literals : Code LiteralOk feed_literal
literals =
    through (tagged (side bools (side longs (side texts (last_side (pair_code names texts)))))) LiteralOk feed_literal literal_side literal_of literal_back
    (elim [ LiteralS.bool b ↦ refl | LiteralS.long z ↦ refl | LiteralS.string t ↦ refl | LiteralS.entity n t ↦ refl ])
    (elim [ LiteralS.bool b ↦ λ h. h | LiteralS.long z ↦ λ h. h | LiteralS.string t ↦ λ h. h | LiteralS.entity n t ↦ λ h. h ])

abbrev ScalarOk : ℕ → Type 0
ScalarOk n = (n < 55296) ⊎ ((57343 < n) × (n < 1114112))

scalars : Code ScalarOk (bytes 4)
scalars = narrower (words 4) ScalarOk (λ n h. omega arith)

pub elems : Code ElemOk feed_elem
elems =
    through (tagged (side scalars (last_side none_code))) ElemOk feed_elem elem_side elem_of elem_back
    (elim [ ElemS.scalar n ↦ refl | ElemS.wildcard ↦ refl ])
    (elim [ ElemS.scalar n ↦ λ h. h | ElemS.wildcard ↦ λ h. h ])

-- ---- types: the code says whether a name follows

name_reads : (o p : Option NameS) → is_some o ≡ is_some p → IfSome o NameOk → IfSome p NameOk → (r s : List ℕ) → feed_maybe feed_name o ++ r ≡ feed_maybe feed_name p ++ s → (o ≡ p) × (r ≡ s)
name_reads None None n p q r s e = (refl, e)
name_reads None (Some y) n p q r s e = cc
name_reads (Some x) None n p q r s e = cc
name_reads (Some x) (Some y) n p q r s e = let h = names.reads x y p q r s e in (ap Some h.0, h.1)

type_reads : Apart TypeOk feed_type
type_reads x y p q r s e =
    let c : x.code ≡ y.code = cc in
    let n = name_reads x.name y.name (p.1 ∙ ap (leb 5) c ∙ sym q.1) p.2 q.2 r s (cc) in
    (λ i. record { code = c i; name = n.0 i }, n.1)

pub types : Code TypeOk feed_type
types = record { reads = type_reads }

-- ---- a leaf of one sort

-- an unknown's name, and its type if it has one
abbrev UnknownOk : Text × Option TypeS → Type 0
UnknownOk p = TextOk p.0 × IfSome p.1 TypeOk

codes : (b : ℕ) → Code (λ c. c < b) (λ c. c ∷ [])
codes b = narrower byte (λ c. c < b) (λ c h. tt)

abbrev sort_place : LeafSides → ℕ
sort_place = side_place (side_place (side_place (side_place (side_place (side_place (side_place (λ p. 0)))))))

place_is : (l : Leaf) → sort l ≡ sort_place (leaf_side l)
place_is Leaf.bare = refl
place_is (Leaf.literal l) = refl
place_is (Leaf.code c) = refl
place_is (Leaf.unknown t o) = refl
place_is (Leaf.name n) = refl
place_is (Leaf.text t) = refl
place_is (Leaf.texts ts) = refl
place_is (Leaf.pattern p) = refl

pub leaves : (b : ℕ) → Placed sort (LeafOk b) feed_leaf
leaves b =
    placed_through (side none_code (side literals (side (codes b) (side (pair_code texts (option_code types)) (side names (side texts (side (lists_of texts) (last_side (lists_of elems))))))))) (LeafOk b) feed_leaf leaf_side leaf_of leaf_back place_is
    (elim [ Leaf.bare ↦ refl | Leaf.literal l ↦ refl | Leaf.code c ↦ refl | Leaf.unknown t o ↦ refl | Leaf.name n ↦ refl | Leaf.text t ↦ refl | Leaf.texts ts ↦ refl | Leaf.pattern p ↦ refl ])
    (elim [ Leaf.bare ↦ λ h. h | Leaf.literal l ↦ λ h. h | Leaf.code c ↦ λ h. h | Leaf.unknown t o ↦ λ h. h | Leaf.name n ↦ λ h. h | Leaf.text t ↦ λ h. h | Leaf.texts ts ↦ λ h. (omega arith, h.2) | Leaf.pattern p ↦ λ h. h ])
