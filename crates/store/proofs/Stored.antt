-- What is read of a store, said of its model.
use Rattle.std.proofs.Common.{◌≡◌, ℕ, ◌+◌, ◌<◌, ◌≤◌, [], length, get_or, arith}
use Rattle.terms.specs.Shape.{size}
use Rattle.terms.specs.Fold.{leaf_bool, as_bool}
use Rattle.terms.specs.Bank.{node_at, shape_at}
use Rattle.pairs.specs.declared.link.Link.{Link}
use Rattle.pairs.specs.Links.{child_of, children_of}
use Rattle.store.specs.declared.parts.Node.{Node}
use Rattle.store.specs.declared.store.Store.{Store}
use Rattle.store.specs.Pools.{pool}
use Rattle.store.specs.Kept.{leaf_kept}
use Rattle.store.specs.Tables.{node_of}
use Rattle.store.specs.Stores.{model}
use Rattle.store.proofs.Lookups.{length_model, model_at, links_few, size_is, row_in, degree_is, child_is}
use Rattle.store.proofs.Folds.{literal_at}

module _ (b : Store) where
  pub nodes_counted : length (model b) ≡ length b.nodes
  nodes_counted = length_model b.nodes b.links (pool b.texts)

  -- where x is the row of the node i
  module _ (i : ℕ) (x : Node) (there : i < length (model b)) (row : x ≡ get_or b.nodes i x) where
    in_nodes : i < length b.nodes
    in_nodes = omega (arith, nodes_counted)

    pub node_read : node_at (model b) i ≡ node_of (children_of (pool b.texts).bytes b.links) (pool b.texts) x
    node_read = model_at b.nodes b.links (pool b.texts) i x in_nodes row

    pub literal_read : as_bool (shape_at (model b) i) ≡ leaf_bool (leaf_kept (pool b.texts) x.leaf)
    literal_read = literal_at b.nodes b.links (pool b.texts) i x in_nodes row b.sound

    pub size_read : x.size ≡ size (shape_at (model b) i)
    size_read = size_is b.nodes b.links (pool b.texts) i x in_nodes row b.held

    pub degree_read : x.links.len ≡ length (node_at (model b) i).children
    degree_read = degree_is b.nodes b.links (pool b.texts) i x in_nodes row b.held

    -- its links lie within the table, which has few enough for a u32
    pub links_within : (x.links.start + x.links.len ≤ length b.links) × (length b.links < 1025)
    links_within = (row_in b.nodes b.links (pool b.texts) i x in_nodes row b.held, links_few b.nodes b.links (pool b.texts) i x in_nodes row b.held b.sound)

    pub child_read : (k : ℕ) → k < x.links.len → (d : Link) → child_of (pool b.texts).bytes (get_or b.links (x.links.start + k) d) ≡ get_or (node_at (model b) i).children k ([], 0)
    child_read = child_is b.nodes b.links (pool b.texts) i x in_nodes row b.held
