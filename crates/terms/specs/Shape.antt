-- The shape of a tree: what is left of it without node numbers and locations. Its size and its order.
use Rattle.std.specs.Prelude.{ℕ, suc, ◌+◌}
use Rattle.std.specs.declared.cmp.Ordering.TheVariants.{Less, Equal, Greater}
use Rattle.std.specs.declared.cmp.Ordering.{Ordering}
use Rattle.std.specs.Ordering.{ordering_then, nat_cmp}
use Rattle.terms.specs.Terms.{Text, Leaf}
use Rattle.terms.specs.Orders.{text_order, leaf_order}

mutual
  -- a kind by its number, a leaf, and children
  pub data Shape : Type 0 where
    node : ℕ → Leaf → Shapes → Shape

  -- children in their order, each with its key, which is empty but in records
  pub data Shapes : Type 0 where
    done : Shapes
    entry : Text → Shape → Shapes → Shapes

-- how many children
abbrev pub count : Shapes → ℕ
count done = 0
count (entry k s r) = suc (count r)

-- the weights of a tree's nodes added up, each child link counted
abbrev mutual
  pub tally : (ℕ → Leaf → ℕ) → Shape → ℕ
  tally w (node k l c) = w k l + tallies w c

  pub tallies : (ℕ → Leaf → ℕ) → Shapes → ℕ
  tallies w done = 0
  tallies w (entry k s r) = tally w s + tallies w r

-- how many subexpressions: one for each node
abbrev pub size : Shape → ℕ
size = tally (λ k l. 1)

-- the sizes of children together
abbrev pub sizes : Shapes → ℕ
sizes = tallies (λ k l. 1)

-- the kind's number, then the leaf, then the number of children, then the children one by one, key before child
abbrev mutual
  pub order : Shape → Shape → Ordering
  order (node k l c) (node j m d) = ordering_then (nat_cmp k j) (ordering_then (leaf_order l m) (ordering_then (nat_cmp (count c) (count d)) (orders c d)))

  pub orders : Shapes → Shapes → Ordering
  orders done done = Equal
  orders done (entry k s r) = Less
  orders (entry k s r) done = Greater
  orders (entry k s r) (entry j t q) = ordering_then (text_order k j) (ordering_then (order s t) (orders r q))
