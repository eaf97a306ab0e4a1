-- What passes the tests of a node is within its bounds.
use Rattle.std.proofs.Common.{◌≡◌, ℕ, Bool, true, false, ◌&&◌, ◌||◌, eqb, ltb, leb, ◌⊎◌, List, [], ◌∷◌, length, is_some, IfSome, Some, None, Option, Ordering, Less, Equal, Greater, sym, refl, inl, inr, true≢false, arith, ltb-true, eqb-true, leb-true}
use mathlib.Core.Bool.{beq}
use Rattle.std.specs.Ordering.{is_lt}
use Rattle.terms.specs.Terms.{Text, NameS, LiteralS, TypeS, ElemS, Leaf}
use Rattle.terms.specs.Orders.{text_order}
use Rattle.terms.specs.Kinds.{Children, exactly, many, keyed}
use Rattle.terms.specs.Shape.{Shape}
use Rattle.terms.specs.Formed.{All, TextOk, NameOk, LiteralOk, TypeOk, ElemOk, LeafOk, CountOk, KeysOk, Below, Rising, RisesOk}
use Rattle.terms.specs.Bank.{Child, gather}
use Rattle.model.specs.Checks.{every, any, name_fits, type_fits, literal_fits, elem_fits, leaf_fits, text_short, name_short, type_short, literal_short, leaf_short, key_short, count_fits, keyless, key_under, keys_rise, keys_fit}
use Rattle.model.specs.Build.{LongOk}
use Rattle.model.proofs.Small.{and_left, and_right}

pub every_all : {A : Type 0} (p : A → Bool) (P : A → Type 0) → ((x : A) → p x ≡ true → P x) → (xs : List A) → every p xs ≡ true → All P xs
every_all p P f [] e = tt
every_all p P f (x ∷ xs) e = (f x (and_left (p x) (every p xs) e), every_all p P f xs (and_right (p x) (every p xs) e))

-- ---- leaves

text_ok : (t : Text) → text_short t ≡ true → TextOk t
text_ok t e = leb-true (length t) 512 e

name_ok : (n : NameS) → name_fits n ≡ true → name_short n ≡ true → NameOk n
name_ok n e f =
    (ltb-true 0 (length n.base) (and_left _ _ e), text_ok n.base (and_left _ _ f), leb-true (length n.namespaces) 8 (and_right (ltb 0 (length n.base)) _ e), every_all text_short TextOk text_ok n.namespaces (and_right (text_short n.base) _ f))

literal_ok : (l : LiteralS) → literal_fits l ≡ true → literal_short l ≡ true → LongOk (Leaf.literal l) → LiteralOk l
literal_ok (LiteralS.bool b) e f h = tt
literal_ok (LiteralS.long z) e f h = h
literal_ok (LiteralS.string t) e f h = text_ok t f
literal_ok (LiteralS.entity n t) e f h = (name_ok n e (and_left _ _ f), text_ok t (and_right (name_short n) _ f))

beq_same : (a b : Bool) → beq a b ≡ true → a ≡ b
beq_same true true e = refl
beq_same true false e = absurd (true≢false (sym e))
beq_same false true e = absurd (true≢false (sym e))
beq_same false false e = refl

any_name : (o : Option NameS) → any name_fits o ≡ true → any name_short o ≡ true → IfSome o NameOk
any_name None e f = tt
any_name (Some n) e f = name_ok n e f

type_ok : (t : TypeS) → type_fits t ≡ true → type_short t ≡ true → TypeOk t
type_ok t e f =
    let h = and_right (ltb t.code 7) _ e in
    (ltb-true t.code 7 (and_left _ _ e), beq_same (is_some t.name) (leb 5 t.code) (and_left _ _ h), any_name t.name (and_right (beq (is_some t.name) (leb 5 t.code)) _ h) f)

any_type : (o : Option TypeS) → any type_fits o ≡ true → any type_short o ≡ true → IfSome o TypeOk
any_type None e f = tt
any_type (Some t) e f = type_ok t e f

or_cases : (a b : Bool) → (a || b) ≡ true → (a ≡ true) ⊎ (b ≡ true)
or_cases true b e = inl refl
or_cases false b e = inr e

scalar_ok : (n : ℕ) → (ltb n 55296 ≡ true) ⊎ ((ltb 57343 n && ltb n 1114112) ≡ true) → ElemOk (ElemS.scalar n)
scalar_ok n (inl e) = inl (ltb-true n 55296 e)
scalar_ok n (inr e) = inr (ltb-true 57343 n (and_left _ _ e), ltb-true n 1114112 (and_right (ltb 57343 n) _ e))

elem_ok : (x : ElemS) → elem_fits x ≡ true → ElemOk x
elem_ok (ElemS.scalar n) e = scalar_ok n (or_cases (ltb n 55296) _ e)
elem_ok ElemS.wildcard e = tt

pub leaf_ok : (b : ℕ) (l : Leaf) → leaf_fits b l ≡ true → leaf_short l ≡ true → LongOk l → LeafOk b l
leaf_ok b Leaf.bare e f h = tt
leaf_ok b (Leaf.literal l) e f h = literal_ok l e f h
leaf_ok b (Leaf.code c) e f h = ltb-true c b e
leaf_ok b (Leaf.unknown t o) e f h = (text_ok t (and_left _ _ f), any_type o e (and_right (text_short t) _ f))
leaf_ok b (Leaf.name n) e f h = name_ok n e f
leaf_ok b (Leaf.text t) e f h = text_ok t f
leaf_ok b (Leaf.texts ts) e f h = (ltb-true 1 (length ts) (and_left _ _ e), leb-true (length ts) 16 (and_right (ltb 1 (length ts)) _ e), every_all text_short TextOk text_ok ts f)
leaf_ok b (Leaf.pattern p) e f h = (leb-true (length p) 256 (and_left _ _ e), every_all elem_fits ElemOk elem_ok p (and_right (leb (length p) 256) _ e))

-- ---- children

pub count_ok : (m : Children) (n : ℕ) → count_fits m n ≡ true → CountOk m n
count_ok (exactly k) n e = eqb-true n k e
count_ok many n e = leb-true n 64 e
count_ok keyed n e = leb-true n 64 e

no_text : (t : Text) → eqb (length t) 0 ≡ true → t ≡ []
no_text [] e = refl
no_text (b ∷ t) e = absurd (let h = eqb-true (length (b ∷ t)) 0 e in omega arith)

no_keys : (n : ℕ) (ss : List Shape) (cs : List Child) → every keyless cs ≡ true → KeysOk (exactly n) (gather ss cs)
no_keys n ss [] e = tt
no_keys n ss (c ∷ cs) e = (no_text c.0 (and_left _ _ e), no_keys n ss cs (and_right (keyless c) _ e))

no_list_keys : (ss : List Shape) (cs : List Child) → every keyless cs ≡ true → KeysOk many (gather ss cs)
no_list_keys ss [] e = tt
no_list_keys ss (c ∷ cs) e = (no_text c.0 (and_left _ _ e), no_list_keys ss cs (and_right (keyless c) _ e))

short_keys : (ss : List Shape) (cs : List Child) → every key_short cs ≡ true → KeysOk keyed (gather ss cs)
short_keys ss [] e = tt
short_keys ss (c ∷ cs) e = (text_ok c.0 (and_left _ _ e), short_keys ss cs (and_right (key_short c) _ e))

pub keys_ok : (m : Children) (ss : List Shape) (cs : List Child) → keys_fit m cs ≡ true → every key_short cs ≡ true → KeysOk m (gather ss cs)
keys_ok (exactly n) ss cs e f = no_keys n ss cs e
keys_ok many ss cs e f = no_list_keys ss cs e
keys_ok keyed ss cs e f = short_keys ss cs f

is_less : (o : Ordering) → is_lt o ≡ true → o ≡ Less
is_less Less e = refl
is_less Equal e = absurd (true≢false (sym e))
is_less Greater e = absurd (true≢false (sym e))

below : (k : Text) (ss : List Shape) (cs : List Child) → key_under k cs ≡ true → Below k (gather ss cs)
below k ss [] e = tt
below k ss (c ∷ cs) e = is_less (text_order k c.0) e

rising : (ss : List Shape) (cs : List Child) → keys_rise cs ≡ true → Rising (gather ss cs)
rising ss [] e = tt
rising ss (c ∷ cs) e = (below c.0 ss cs (and_left _ _ e), rising ss cs (and_right (key_under c.0 cs) _ e))

pub rises_ok : (m : Children) (ss : List Shape) (cs : List Child) → keys_fit m cs ≡ true → RisesOk m (gather ss cs)
rises_ok (exactly n) ss cs e = tt
rises_ok many ss cs e = tt
rises_ok keyed ss cs e = rising ss cs e
