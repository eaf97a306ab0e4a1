-- What the table of kinds says of leaves and children.
use Rattle.std.proofs.Common.{◌≡◌, ℕ, zero, suc, ◌<◌, Bool, false, eqb, List, [], ◌∷◌, length, get_or, Some, None, Option, sym, refl, ap, ◌∙◌, subst, arith}
use Rattle.terms.specs.Terms.{Leaf}
use Rattle.terms.specs.Kinds.{exactly, Kind, kinds, sort}
use Rattle.terms.specs.Shape.{node, Shapes, done, entry, count}
use Rattle.terms.specs.Fold.{leaf_bool, as_bool, join}
use Rattle.terms.specs.Formed.{All, CountOk, NodeOk, Formed}
use Rattle.terms.specs.Bank.{Bank, node_at, gather, shapes, shape_at}
use Rattle.terms.proofs.BankShapes.{bank_laws, formed}
use Rattle.model.specs.Build.{Sound}
use Rattle.model.proofs.Small.{some_none}

pub all_at : {A : Type 0} (P : A → Type 0) (xs : List A) (i : ℕ) (d : A) → All P xs → i < length xs → P (get_or xs i d)
all_at P [] i d a h = absurd (omega arith)
all_at P (x ∷ xs) zero d a h = a.0
all_at P (x ∷ xs) (suc i) d a h = all_at P xs i d a.1 (omega arith)

-- a literal has no children
abbrev Alone : Kind → Type 0
Alone r = r.leaf ≡ 1 → r.children ≡ exactly 0

literal_row : All Alone kinds
literal_row = (λ e. refl, (λ e. refl, (λ e. refl, (λ e. refl, (λ e. absurd (omega arith), (λ e. absurd (omega arith), (λ e. absurd (omega arith), (λ e. absurd (omega arith), (λ e. absurd (omega arith), (λ e. absurd (omega arith), (λ e. absurd (omega arith), (λ e. absurd (omega arith), (λ e. absurd (omega arith), (λ e. absurd (omega arith), (λ e. absurd (omega arith), (λ e. absurd (omega arith), (λ e. absurd (omega arith), tt)))))))))))))))))

bool_sort : (l : Leaf) (b : Bool) → leaf_bool l ≡ Some b → sort l ≡ 1
bool_sort Leaf.bare b e = some_none b (sym e)
bool_sort (Leaf.literal x) b e = refl
bool_sort (Leaf.code c) b e = some_none b (sym e)
bool_sort (Leaf.unknown t o) b e = some_none b (sym e)
bool_sort (Leaf.name n) b e = some_none b (sym e)
bool_sort (Leaf.text t) b e = some_none b (sym e)
bool_sort (Leaf.texts ts) b e = some_none b (sym e)
bool_sort (Leaf.pattern p) b e = some_none b (sym e)

bool_alone : (k : ℕ) (l : Leaf) (c : Shapes) (b : Bool) → NodeOk k l c → leaf_bool l ≡ Some b → count c ≡ 0
bool_alone k l c b h e =
    let row = all_at Alone kinds k _ literal_row h.known (sym h.has ∙ bool_sort l b e) in
    subst (λ m. CountOk m (count c)) row h.number

bool_over : (k : ℕ) (l : Leaf) (c : Shapes) (o : Option Bool) → NodeOk k l c → leaf_bool l ≡ o → as_bool (node k l c) ≡ o
bool_over k l done o h e = e
bool_over k l (entry j s r) None h e = refl
bool_over k l (entry j s r) (Some b) h e = absurd (let z = bool_alone k l (entry j s r) b h e in omega arith)

-- the boolean that a tree is shows in its root's leaf
pub bool_at : (m : Bank) (i : ℕ) → Sound m → i < length m → as_bool (shape_at m i) ≡ leaf_bool (node_at m i).leaf
bool_at m i so h =
    let n = node_at m i in
    let o = bank_laws.opened m i _ so.closed h in
    let f = subst Formed o (formed m i so.closed so.nodes h) in
    ap as_bool o ∙ bool_over n.kind n.leaf (gather (shapes m) n.children) (leaf_bool n.leaf) f.0 refl

-- only And and Or fold
pub join_never : (k : ℕ) (a b : Option Bool) → eqb k 5 ≡ false → eqb k 6 ≡ false → join k a b ≡ None
join_never k None b e f = refl
join_never k (Some x) None e f = refl
join_never k (Some x) (Some y) e f = rw (e, f)
