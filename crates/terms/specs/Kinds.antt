-- The seventeen kinds of nodes, in one table: which leaf a node of the kind has, whether the leaf is fed before the children or after them, and which children it has.
use Rattle.std.specs.Prelude.{ℕ, Bool, true, false, List, [], ◌∷◌, slice_index_or}
use Rattle.terms.specs.Terms.{Leaf}

-- so many children, a list of them, or a list with a key for each
pub data Children : Type 0 where
  exactly : ℕ → Children
  many : Children
  keyed : Children

-- the sorts of leaves, by number
abbrev pub no_leaf : ℕ
no_leaf = 0

abbrev pub a_literal : ℕ
a_literal = 1

abbrev pub a_code : ℕ
a_code = 2

abbrev pub an_unknown : ℕ
an_unknown = 3

abbrev pub a_name : ℕ
a_name = 4

abbrev pub a_text : ℕ
a_text = 5

abbrev pub some_texts : ℕ
some_texts = 6

abbrev pub a_pattern : ℕ
a_pattern = 7

-- which sort a leaf is
abbrev pub sort : Leaf → ℕ
sort Leaf.bare = no_leaf
sort (Leaf.literal l) = a_literal
sort (Leaf.code c) = a_code
sort (Leaf.unknown t o) = an_unknown
sort (Leaf.name n) = a_name
sort (Leaf.text t) = a_text
sort (Leaf.texts ts) = some_texts
sort (Leaf.pattern p) = a_pattern

-- leaf: the sort of its leaf; codes: a leaf that is a code is below this; last: the leaf is fed after the children
pub record Kind : Type 0 where
  pub leaf : ℕ
  pub codes : ℕ
  pub last : Bool
  pub children : Children

-- a kind whose leaf, if any, is fed before its children
abbrev first : ℕ → ℕ → Children → Kind
first l b c = record { leaf = l; codes = b; last = false; children = c }

-- a kind with one child, whose leaf is fed after it
abbrev after : ℕ → Kind
after l = record { leaf = l; codes = 0; last = true; children = exactly 1 }

-- the kinds by their numbers, which are those of the original's variant order
abbrev pub kinds : List Kind
kinds =
    -- 0 Lit, 1 Var, 2 Slot, 3 Unknown
    first a_literal 0 (exactly 0)
    ∷ first a_code 4 (exactly 0)
    ∷ first a_code 2 (exactly 0)
    ∷ first an_unknown 0 (exactly 0)
    -- 4 If, 5 And, 6 Or
    ∷ first no_leaf 0 (exactly 3)
    ∷ first no_leaf 0 (exactly 2)
    ∷ first no_leaf 0 (exactly 2)
    -- 7 UnaryApp, 8 BinaryApp, 9 ExtensionFunctionApp
    ∷ first a_code 3 (exactly 1)
    ∷ first a_code 12 (exactly 2)
    ∷ first a_name 0 many
    -- 10 GetAttr, 11 HasAttr, 12 ExtHasAttr, 13 Like
    ∷ after a_text
    ∷ after a_text
    ∷ after some_texts
    ∷ after a_pattern
    -- 14 Set, 15 Record, 16 Is
    ∷ first no_leaf 0 many
    ∷ first no_leaf 0 keyed
    ∷ after a_name
    ∷ []

-- a number that no kind has reads as a node with nothing in it
abbrev pub kind : ℕ → Kind
kind k = slice_index_or kinds k (first no_leaf 0 (exactly 0))
