-- What is read of the tables stays as they grow.
use Rattle.std.proofs.Common.{◌≡◌, ℕ, ◌+◌, ◌≤◌, true, ◌&&◌, leb, List, ◌++◌, map, length, ap, arith, length-append, le-leb, leb-true}
use Rattle.std.proofs.lemmas.Bool.{and_parts, and_from}
use Rattle.terms.specs.Terms.{Text}
use Rattle.terms.specs.Bank.{Child}
use Rattle.model.specs.Checks.{every}
use Rattle.pairs.specs.declared.link.Link.{Link}
use Rattle.pairs.specs.Links.{child_of}
use Rattle.store.specs.declared.parts.Mark.{Mark}
use Rattle.store.specs.declared.parts.Node.{Node}
use Rattle.store.specs.Spans.{span_in}
use Rattle.store.specs.Pools.{Pool, plus}
use Rattle.store.specs.Kept.{leaf_in}
use Rattle.store.specs.Tables.{node_of, key_in, mark_in, node_in}
use Rattle.store.proofs.Pieces.{map_same}
use Rattle.store.proofs.Grown.{span_in_stays, read_more}
use Rattle.store.proofs.Leafs.{leaf_in_stays, leaf_stays}

-- marks and rows within their tables
pub mark_parts : (s : Pool) (k : Mark) → mark_in s k ≡ true → (k.bytes ≤ length s.bytes) × (k.spans ≤ length s.spans) × (k.elems ≤ length s.elems)
mark_parts s k h =
    let p = and_parts (leb k.bytes (length s.bytes)) (leb k.spans (length s.spans) && leb k.elems (length s.elems)) h in
    let q = and_parts (leb k.spans (length s.spans)) (leb k.elems (length s.elems)) p.1 in
    (leb-true _ _ p.0, leb-true _ _ q.0, leb-true _ _ q.1)

pub mark_from : (s : Pool) (k : Mark) → k.bytes ≤ length s.bytes → k.spans ≤ length s.spans → k.elems ≤ length s.elems → mark_in s k ≡ true
mark_from s k a b c = and_from _ _ (le-leb _ _ a) (and_from _ _ (le-leb _ _ b) (le-leb _ _ c))

pub node_parts : (n : ℕ) (s : Pool) (x : Node) → node_in n s x ≡ true → (x.links.start + x.links.len ≤ n) × (leaf_in s x.leaf ≡ true) × (mark_in s x.mark ≡ true)
node_parts n s x h =
    let p = and_parts (span_in n x.links) (leaf_in s x.leaf && mark_in s x.mark) h in
    let q = and_parts (leaf_in s x.leaf) (mark_in s x.mark) p.1 in
    (leb-true _ _ p.0, q.0, q.1)

pub node_from : (n : ℕ) (s : Pool) (x : Node) → x.links.start + x.links.len ≤ n → leaf_in s x.leaf ≡ true → mark_in s x.mark ≡ true → node_in n s x ≡ true
node_from n s x a b c = and_from _ _ (le-leb _ _ a) (and_from _ _ b c)

module _ (s m : Pool) where
  pub links_more : (ls : List Link) → every (key_in s) ls ≡ true → map (child_of (plus s m).bytes) ls ≡ map (child_of s.bytes) ls
  links_more ls h =
      map_same (key_in s) (child_of (plus s m).bytes) (child_of s.bytes) (λ l e. ap (λ (t : Text). (t, l.child)) (read_more s.bytes m.bytes l.key e)) ls h

  pub key_in_more : (l : Link) → key_in s l ≡ true → key_in (plus s m) l ≡ true
  key_in_more l h = span_in_stays s.bytes m.bytes l.key h

  mark_in_more : (k : Mark) → mark_in s k ≡ true → mark_in (plus s m) k ≡ true
  mark_in_more k h =
      let a = length-append s.bytes m.bytes in
      let b = length-append s.spans m.spans in
      let c = length-append s.elems m.elems in
      let w = mark_parts s k h in
      mark_from (plus s m) k (omega (arith, w.0)) (omega (arith, w.1)) (omega (arith, w.2))

  pub node_in_more : (a b : ℕ) → a ≤ b → (x : Node) → node_in a s x ≡ true → node_in b (plus s m) x ≡ true
  node_in_more a b e x h =
      let w = node_parts a s x h in
      node_from b (plus s m) x (omega (arith, w.0)) (leaf_in_stays s m x.leaf w.1) (mark_in_more x.mark w.2)

  pub node_more : every (span_in (length s.bytes)) s.spans ≡ true → (cs ds : List Child) (x : Node) → node_in (length cs) s x ≡ true
      → node_of (cs ++ ds) (plus s m) x ≡ node_of cs s x
  node_more inside cs ds x h =
      let w = node_parts (length cs) s x h in
      let a = leaf_stays s m inside x.leaf w.1 in
      let b = read_more cs ds x.links (le-leb _ _ w.0) in
      rw (a, b)
