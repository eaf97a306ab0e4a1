-- One more row in each table is one more node in the model.
use Rattle.std.proofs.Common.{◌≡◌, ℕ, ◌+◌, ◌<◌, ◌≤◌, true, List, [], ◌∷◌, ◌++◌, map, length, get_or, take, sym, refl, ap, ◌∙◌, subst, arith, length-append}
use native.Mathlib.Decide.{dec_lt}
use lib.ListN.{length-map}
use Rattle.std.proofs.lemmas.List.{map-append, map_push, take-append-le, take_at, length_push, get_or_append_left, get_or_push}
use Rattle.std.proofs.lemmas.Bool.{and_from}
use Rattle.terms.specs.Shape.{size}
use Rattle.terms.specs.Bank.{Child, NodeM, Bank, shape_of, shapes}
use Rattle.terms.proofs.Tables.{table_append}
use Rattle.model.specs.Checks.{every}
use Rattle.model.specs.Costs.{node_bytes}
use Rattle.model.proofs.Builds.{links_more as links-push, bytes_more as bytes-push}
use Rattle.codes.specs.Codes.{kind_code}
use Rattle.leaves.specs.Values.{read}
use Rattle.pairs.specs.declared.link.Link.{Link}
use Rattle.pairs.specs.Links.{child_of}
use Rattle.store.specs.declared.parts.Mark.{Mark}
use Rattle.store.specs.declared.parts.Node.{Node}
use Rattle.store.specs.Spans.{span_in}
use Rattle.store.specs.Pools.{Pool, plus, used, upto}
use Rattle.store.specs.Kept.{leaf_kept, leaf_in}
use Rattle.store.specs.Tables.{place_of, node_of, key_in, mark_in, node_in, size_of, model_of, Held, Before, Marked}
use Rattle.store.proofs.Pieces.{read_new, every_push, every_stays, map_same}
use Rattle.store.proofs.Lookups.{row_in, mark_is_in}
use Rattle.store.proofs.Stays.{mark_parts, node_from, links_more, key_in_more, node_in_more, node_more}

sizes_push : (kept : List ℕ) (m m' : Bank) (k : ℕ) (n : NodeM) → kept ≡ map size (shapes m) → k ≡ size (shape_of (shapes m) n) → m' ≡ m ++ n ∷ []
    → kept ++ k ∷ [] ≡ map size (shapes m')
sizes_push kept m m' k n a b e =
    rw (a, b) (sym (ap (λ ns. map size (shapes ns)) e ∙ ap (map size) (table_append shape_of [] m (n ∷ [])) ∙ map_push size (shapes m) (shape_of (shapes m) n)))

-- an empty store
module _ (nodes : List Node) (links : List Link) (s : Pool) (p : nodes ≡ []) (q : links ≡ []) (r : used s ≡ 0) where
  pub model_none : model_of nodes links s ≡ []
  unfolding model_of
  model_none = rw p

  pub held_none : Held nodes links s
  unfolding model_of
  held_none = rw (p, q) (refl, refl, refl, refl, r)

  pub marked_none : Marked nodes links s
  marked_none i x h e = absurd (omega (arith, ap length p))

-- what stood before a node
module _ (s m : Pool) (k : Mark) where
  pub upto_more : k.bytes ≤ length s.bytes → k.spans ≤ length s.spans → k.elems ≤ length s.elems → upto (plus s m) k ≡ upto s k
  upto_more a b c =
      let e = take-append-le k.bytes s.bytes m.bytes a in
      let f = take-append-le k.spans s.spans m.spans b in
      let g = take-append-le k.elems s.elems m.elems c in
      cc

  upto_all : k.bytes ≡ length s.bytes → k.spans ≡ length s.spans → k.elems ≡ length s.elems → upto (plus s m) k ≡ s
  upto_all a b c =
      let e = take_at s.bytes m.bytes k.bytes (sym a) in
      let f = take_at s.spans m.spans k.spans (sym b) in
      let g = take_at s.elems m.elems k.elems (sym c) in
      rw (e, f, g)

-- the same tables
pub stands : (nodes nodes' : List Node) (links links' : List Link) (s s' : Pool) (i : ℕ) (x : Node) → take i nodes' ≡ nodes → take x.links.start links' ≡ links
    → upto s' x.mark ≡ s
    → Held nodes links s → every (span_in (length s.bytes)) s.spans ≡ true
    → Before nodes' links' s' i x
stands nodes nodes' links links' s s' i x a b c held inside =
    record {
      held =
          subst (λ n. Held n (take x.links.start links') (upto s' x.mark)) (sym a)
          (subst (λ l. Held nodes l (upto s' x.mark)) (sym b)
          (subst (λ p. Held nodes links p) (sym c) held));
      inside = subst (λ (p : Pool). every (span_in (length p.bytes)) p.spans ≡ true) (sym c) inside;
    }

-- nodes read the same in larger tables
module _ (nodes : List Node) (links : List Link) (s : Pool) (ls : List Link) (m : Pool)
    (held : Held nodes links s)
    (lists : every (span_in (length s.bytes)) s.spans ≡ true)
  where
    pub links_now : map (child_of (plus s m).bytes) (links ++ ls) ≡ map (child_of s.bytes) links ++ map (child_of (plus s m).bytes) ls
    links_now =
        map-append (child_of (plus s m).bytes) links ls
        ∙ ap (λ (cs : List Child). cs ++ map (child_of (plus s m).bytes) ls) (links_more s m links held.1)

    pub nodes_old : map (node_of (map (child_of s.bytes) links ++ map (child_of (plus s m).bytes) ls) (plus s m)) nodes
        ≡ map (node_of (map (child_of s.bytes) links) s) nodes
    nodes_old =
        map_same (node_in (length links) s) _ _
        (λ y h. node_more s m lists (map (child_of s.bytes) links) (map (child_of (plus s m).bytes) ls) y
        (rw (length-map links (child_of s.bytes)) h))
        nodes held.0

module _ (nodes : List Node) (links : List Link) (s : Pool) (ls : List Link) (m : Pool) (x : Node)
    (held : Held nodes links s)
    (lists : every (span_in (length s.bytes)) s.spans ≡ true)
    (keys : every (key_in (plus s m)) ls ≡ true)
    (inside : leaf_in (plus s m) x.leaf ≡ true)
    (first : x.links.start ≡ length links)
    (many : x.links.len ≡ length ls)
    (mark : mark_in (plus s m) x.mark ≡ true)
  where
    -- the node that is new
    abbrev pub fresh : NodeM
    fresh =
        record {
          kind = kind_code x.kind;
          leaf = leaf_kept (plus s m) x.leaf;
          children = map (child_of (plus s m).bytes) ls;
          place = place_of x.place;
        }

    children_new : read (map (child_of s.bytes) links ++ map (child_of (plus s m).bytes) ls) x.links ≡ map (child_of (plus s m).bytes) ls
    children_new =
        read_new (map (child_of s.bytes) links) (map (child_of (plus s m).bytes) ls) x.links.start x.links.len
        (first ∙ sym (length-map links (child_of s.bytes)))
        (many ∙ sym (length-map ls (child_of (plus s m).bytes)))

    pub model_push : model_of (nodes ++ x ∷ []) (links ++ ls) (plus s m) ≡ model_of nodes links s ++ fresh ∷ []
    unfolding model_of
    model_push =
        rw (links_now nodes links s ls m held lists)
        (map_push (node_of (map (child_of s.bytes) links ++ map (child_of (plus s m).bytes) ls) (plus s m)) nodes x
        ∙ rw (nodes_old nodes links s ls m held lists, children_new))

    pub held_push : x.size ≡ size (shape_of (shapes (model_of nodes links s)) fresh)
        → used (plus s m) ≡ used s + node_bytes fresh
        → Held (nodes ++ x ∷ []) (links ++ ls) (plus s m)
    held_push size more =
        let a = length-append links ls in
        let le : length links ≤ length (links ++ ls) = omega arith in
        let e = length-map ls (child_of (plus s m).bytes) in (
          every_push (node_in (length (links ++ ls)) (plus s m)) nodes (x ∷ [])
              (every_stays _ _ (node_in_more s m (length links) (length (links ++ ls)) le) nodes held.0)
              (and_from _ true (node_from (length (links ++ ls)) (plus s m) x (omega arith) inside mark) refl),
          every_push (key_in (plus s m)) links ls (every_stays _ _ (key_in_more s m) links held.1) keys,
          map_push size_of nodes x ∙ sizes_push _ (model_of nodes links s) _ x.size fresh held.2 size model_push,
          rw model_push (omega (arith, links-push (model_of nodes links s) fresh, held.3)),
          rw model_push (more ∙ omega (arith, bytes-push (model_of nodes links s) fresh, held.4)),
        )

    marked_by : Marked nodes links s → x.mark.bytes ≡ length s.bytes → x.mark.spans ≡ length s.spans → x.mark.elems ≡ length s.elems
        → (i : ℕ) (y : Node) → i < length (nodes ++ x ∷ []) → y ≡ get_or (nodes ++ x ∷ []) i y → Dec (i < length nodes)
        → Before (nodes ++ x ∷ []) (links ++ ls) (plus s m) i y
    marked_by was a b c i y h e (yes l) =
        let g = e ∙ get_or_append_left nodes (x ∷ []) y i l in
        let w = was i y l g in
        let f = row_in nodes links s i y l g held in
        let k = mark_parts s y.mark (mark_is_in nodes links s i y l g held) in
        stands (take i nodes) _ (take y.links.start links) _ (upto s y.mark) _ i y
        (take-append-le i nodes (x ∷ []) (omega arith)) (take-append-le y.links.start links ls (omega arith)) (upto_more s m y.mark k.0 k.1 k.2)
        w.held w.inside
    marked_by was a b c i y h e (no l) =
        let n : length nodes ≡ i = omega (arith, length_push nodes x) in
        let z : y ≡ x = e ∙ get_or_push nodes x y i n in
        subst (Before (nodes ++ x ∷ []) (links ++ ls) (plus s m) i) (sym z)
        (stands nodes _ links _ s _ i x
        (take_at nodes (x ∷ []) i n) (take_at links ls x.links.start (sym first)) (upto_all s m x.mark a b c)
        held lists)

    pub marked_push : Marked nodes links s → x.mark.bytes ≡ length s.bytes → x.mark.spans ≡ length s.spans → x.mark.elems ≡ length s.elems
        → Marked (nodes ++ x ∷ []) (links ++ ls) (plus s m)
    marked_push was a b c i y h e = marked_by was a b c i y h e (dec_lt i (length nodes))
