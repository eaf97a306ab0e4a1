-- Boolean literals, and what And and Or over two of them come to.
use Rattle.std.proofs.Common.{◌≡◌, ℕ, ◌<◌, Bool, List, [], ◌∷◌, length, get_or, None, refl, ap, ◌∙◌, arith}
use Rattle.terms.specs.Shape.{Shape}
use Rattle.terms.specs.Fold.{leaf_bool, as_bool, fold}
use Rattle.terms.specs.Bank.{Child, NodeM, gather, shape_at}
use Rattle.model.specs.Build.{Sound}
use Rattle.model.proofs.Rows.{bool_at}
use Rattle.leaves.specs.declared.literal.Literal.{Literal}
use Rattle.leaves.specs.declared.literal.Literal.TheVariants as literal
use Rattle.leaves.specs.declared.leaf.Leaf.TheVariants as leaf
use Rattle.leaves.specs.declared.text_list.Span.{Span}
use Rattle.pairs.specs.declared.link.Link.{Link}
use Rattle.store.specs.declared.parts.Node.{Node}
use Rattle.store.specs.Pools.{Pool}
use Rattle.store.specs.Kept.{KeptLeaf, leaf_kept}
use Rattle.store.specs.Tables.{model_of}
use Rattle.store.proofs.Truths.{bool_told}
use Rattle.store.proofs.Lookups.{length_model, model_at}

pub literal_at : (nodes : List Node) (links : List Link) (s : Pool) (i : ℕ) (x : Node) → i < length nodes → x ≡ get_or nodes i x
    → ∥ Sound (model_of nodes links s) ∥₁
    → as_bool (shape_at (model_of nodes links s) i) ≡ leaf_bool (leaf_kept s x.leaf)
literal_at nodes links s i x h e sound =
    bool_told _ _ sound (λ so.
    bool_at (model_of nodes links s) i so (omega (arith, length_model nodes links s))
    ∙ ap (λ (n : NodeM). leaf_bool n.leaf) (model_at nodes links s i x h e))

-- a leaf that is no literal, and a literal that is no boolean
pub no_literal : (s : Pool) (l : KeptLeaf) → ((x : Literal Span Span) → l ≡ leaf.Literal x → ⊥) → leaf_bool (leaf_kept s l) ≡ None
no_literal s leaf.Nothing h = refl
no_literal s (leaf.Literal x) h = absurd (h x refl)
no_literal s (leaf.Code c) h = refl
no_literal s (leaf.Unknown u) h = refl
no_literal s (leaf.Name n) h = refl
no_literal s (leaf.Text t) h = refl
no_literal s (leaf.Texts p) h = refl
no_literal s (leaf.Pattern p) h = refl

pub no_bool : (s : Pool) (l : Literal Span Span) → ((b : Bool) → l ≡ literal.Bool b → ⊥) → leaf_bool (leaf_kept s (leaf.Literal l)) ≡ None
no_bool s (literal.Bool b) h = absurd (h b refl)
no_bool s (literal.Long z) h = refl
no_bool s (literal.String t) h = refl
no_bool s (literal.Entity n t) h = refl

-- another number of children than two
pub fold_other : (k : ℕ) (ss : List Shape) (cs : List Child) → (length cs ≡ 2 → ⊥) → fold k (gather ss cs) ≡ None
fold_other k ss [] e = refl
fold_other k ss (a ∷ []) e = refl
fold_other k ss (a ∷ b ∷ []) e = absurd (e refl)
fold_other k ss (a ∷ b ∷ c ∷ cs) e = refl
