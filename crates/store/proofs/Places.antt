-- What a store is after a node was put into its tables.
use Rattle.std.proofs.Common.{◌≡◌, ◌+◌, true, List, [], ◌∷◌, ◌++◌, map, length, sym, refl, ap, ◌∙◌, subst, arith, length-append}
use mathlib.Core.Logic.{∥∥₁_map}
use lib.ListN.{length-map}
use Rattle.terms.specs.Terms.{Leaf}
use Rattle.terms.specs.Shape.{size}
use Rattle.terms.specs.Bank.{Child, NodeM, Bank, shape_of, shapes}
use Rattle.model.specs.Checks.{every}
use Rattle.model.specs.Costs.{leaf_bytes, keys_bytes}
use Rattle.model.specs.Build.{Fitting, Sound}
use Rattle.model.proofs.Builds.{sound_more}
use Rattle.codes.specs.Codes.{kind_code}
use Rattle.pairs.specs.declared.link.Link.{Link}
use Rattle.pairs.specs.Links.{child_of}
use Rattle.store.specs.declared.parts.Node.{Node}
use Rattle.store.specs.Spans.{span_in}
use Rattle.store.specs.Pools.{Pool, plus, used, Grows, Takes}
use Rattle.store.specs.Kept.{KeptLeaf, leaf_kept, leaf_in}
use Rattle.store.specs.Tables.{place_of, key_in, mark_in, model_of, Held, Marked}
use Rattle.store.specs.Stores.{Entered}
use Rattle.store.proofs.Grown.{takes_on}
use Rattle.store.proofs.Leafs.{leaf_in_stays, leaf_stays}
use Rattle.store.proofs.Stays.{mark_from}
use Rattle.store.proofs.Grows.{model_push, held_push, marked_push}

-- what is so after the node n was put last
pub record Placed (nodes : List Node) (links : List Link) (s : Pool) (m : Bank) (n : NodeM) : Type 0 where
  pub held : Held nodes links s
  pub marked : ∥ Marked nodes links s ∥₁
  pub sound : ∥ Sound (model_of nodes links s) ∥₁
  pub after : model_of nodes links s ≡ m ++ n ∷ []

module _ (nodes nodes' : List Node) (links links' ls : List Link) (s s' : Pool) (l : Leaf) (cs : List Child) (x : Node)
    (held : Held nodes links s)
    (lists : every (span_in (length s.bytes)) s.spans ≡ true)
    (en : nodes' ≡ nodes ++ x ∷ [])
    (el : links' ≡ links ++ ls)
    (grows : Grows s s')
    (leaf : leaf_kept s' x.leaf ≡ l)
    (inside : leaf_in s' x.leaf ≡ true)
    (kids : map (child_of s'.bytes) ls ≡ cs)
    (keys : every (key_in s') ls ≡ true)
    (first : x.links.start ≡ length links)
    (many : x.links.len ≡ length ls)
    (mb : x.mark.bytes ≡ length s.bytes)
    (ms : x.mark.spans ≡ length s.spans)
    (me : x.mark.elems ≡ length s.elems)
  where
    abbrev pub node : NodeM
    node = record { kind = kind_code x.kind; leaf = l; children = cs; place = place_of x.place }

    abbrev et : s' ≡ plus s grows.0
    et = grows.1

    marks : mark_in (plus s grows.0) x.mark ≡ true
    marks =
        let a = length-append s.bytes grows.0.bytes in
        let b = length-append s.spans grows.0.spans in
        let c = length-append s.elems grows.0.elems in
        mark_from (plus s grows.0) x.mark (omega arith) (omega arith) (omega arith)

    pub placed_model : model_of nodes' links' s' ≡ model_of nodes links s ++ node ∷ []
    placed_model =
        rw (en, el, et)
        (model_push nodes links s ls grows.0 x held lists (rw et at keys) (rw et at inside) first many marks
        ∙ rw (rw et at leaf, rw et at kids))

    put : ∥ Marked nodes links s ∥₁
        → ∥ Sound (model_of nodes links s) ∥₁
        → x.size ≡ size (shape_of (shapes (model_of nodes links s)) node)
        → used s' ≡ used s + (leaf_bytes l + keys_bytes cs)
        → Fitting (model_of nodes links s) node
        → Placed nodes' links' s' (model_of nodes links s) node
    put marked sound size more fits = record {
      held =
          rw (en, el, et)
          (held_push nodes links s ls grows.0 x held lists (rw et at keys) (rw et at inside) first many marks
          (rw (rw et at kids) size)
          (rw (rw et at leaf, rw et at kids) (rw et at more)));
      marked = ∥∥₁_map marked (λ w. rw (en, el, et) (marked_push nodes links s ls grows.0 x held lists (rw et at keys) (rw et at inside) first many marks w mb ms me));
      sound = ∥∥₁_map sound (λ w. subst Sound (sym placed_model) (sound_more (model_of nodes links s) node w fits));
      after = placed_model;
    }

-- a leaf that was kept before the keys
module _ (s s' : Pool) (grows : Grows s s') (k : KeptLeaf) (h : leaf_in s k ≡ true) where
  in_later : leaf_in s' k ≡ true
  in_later = rw grows.1 (leaf_in_stays s grows.0 k h)

  leaf_later : every (span_in (length s.bytes)) s.spans ≡ true → leaf_kept s' k ≡ leaf_kept s k
  leaf_later lists = rw grows.1 (leaf_stays s grows.0 lists k h)

-- the row x as a node of this leaf and these children
abbrev pub node_for : Node → Leaf → List Child → NodeM
node_for x l cs = record { kind = kind_code x.kind; leaf = l; children = cs; place = place_of x.place }

-- the leaf is kept first, from s to t, and then the links, to u
pub placed : (nodes nodes' : List Node) (links links' : List Link) (s t u : Pool) (l : Leaf) (cs : List Child) (x : Node)
    → Held nodes links s
    → ∥ Marked nodes links s ∥₁
    → ∥ Sound (model_of nodes links s) ∥₁
    → every (span_in (length s.bytes)) s.spans ≡ true
    → every (span_in (length t.bytes)) t.spans ≡ true
    → nodes' ≡ nodes ++ x ∷ []
    → Entered links links' u cs
    → Takes s t (leaf_bytes l)
    → Takes t u (keys_bytes cs)
    → leaf_kept t x.leaf ≡ l
    → leaf_in t x.leaf ≡ true
    → x.links.start ≡ length links
    → x.links.len ≡ length cs
    → x.mark.bytes ≡ length s.bytes
    → x.mark.spans ≡ length s.spans
    → x.mark.elems ≡ length s.elems
    → x.size ≡ size (shape_of (shapes (model_of nodes links s)) (node_for x l cs))
    → Fitting (model_of nodes links s) (node_for x l cs)
    → Placed nodes' links' u (model_of nodes links s) (node_for x l cs)
placed nodes nodes' links links' s t u l cs x held marked sound lists lists' en (ls, (el, kids, keys)) g h kept inside first many mb ms me size fits =
    let takes = takes_on s t u _ _ (leaf_bytes l + keys_bytes cs) g h refl in
    let grows = takes.grows in
    let leaf = leaf_later t u h.grows x.leaf inside lists' ∙ kept in
    let inside' = in_later t u h.grows x.leaf inside in
    let many' : x.links.len ≡ length ls = many ∙ sym (ap length kids) ∙ length-map ls (child_of u.bytes) in
    put nodes nodes' links links' ls s u l cs x held lists en el grows leaf inside' kids keys first many' mb ms me marked sound size takes.bytes fits
