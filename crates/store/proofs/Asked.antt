-- The refusals in their order.
use Rattle.std.proofs.Common.{◌≡◌, ℕ, Bool, true, ◌&&◌, ltb, List, [], ◌∷◌, length, refl}
use Rattle.std.proofs.Math.Bool.{and-true}
use Rattle.terms.specs.Terms.{Leaf}
use Rattle.terms.specs.Bank.{Child, Bank}
use Rattle.terms.specs.declared.refusal.Refusal.TheVariants as refusal
use Rattle.model.specs.Checks.{first_failed, every, there, leaf_short, key_short}
use Rattle.codes.specs.declared.kind.Kind.{Kind}
use Rattle.codes.specs.declared.kind.Kind.TheVariants as kinds
use Rattle.codes.specs.Codes.{kind_code}
use Rattle.checks.specs.Checked.{suits, cost_unless, leaf_cost}
use Rattle.store.specs.Stores.{children_fit, checked}

-- every kind is in the table
pub code_below : (k : Kind) → ltb (kind_code k) 17 ≡ true
code_below kinds.Lit = refl
code_below kinds.Var = refl
code_below kinds.Slot = refl
code_below kinds.Unknown = refl
code_below kinds.If = refl
code_below kinds.And = refl
code_below kinds.Or = refl
code_below kinds.UnaryApp = refl
code_below kinds.BinaryApp = refl
code_below kinds.ExtensionFunctionApp = refl
code_below kinds.GetAttr = refl
code_below kinds.HasAttr = refl
code_below kinds.ExtHasAttr = refl
code_below kinds.Like = refl
code_below kinds.Set = refl
code_below kinds.Record = refl
code_below kinds.Is = refl

-- where all but the leaf passes, the leaf decides
leaf_decides : (known below suit kids short keys : Bool) (l : Leaf) → known ≡ true → below ≡ true → kids ≡ true → keys ≡ true
    → cost_unless (first_failed ((known, refusal.Node) ∷ ((below && suit) && kids, refusal.Leaf) ∷ (short && keys, refusal.Text) ∷ [])) l
    ≡ cost_unless (first_failed ((suit, refusal.Leaf) ∷ (short, refusal.Text) ∷ [])) l
leaf_decides known below suit kids short keys l a b c d = rw (a, b, c, d, and-true suit, and-true short)

pub checked_leaf : (m : Bank) (k : ℕ) (l : Leaf) (cs : List Child) → ltb k 17 ≡ true → every (there (length m)) cs ≡ true → children_fit k cs ≡ true → every key_short cs ≡ true
    → checked m k l cs ≡ leaf_cost k l
checked_leaf m k l cs below known kids keys =
    leaf_decides (every (there (length m)) cs) (ltb k 17) (suits k l) (children_fit k cs) (leaf_short l) (every key_short cs) l known below kids keys
