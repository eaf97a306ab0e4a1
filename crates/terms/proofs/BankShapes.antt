-- The shapes of a bank's nodes.
use Rattle.std.proofs.Common.{◌≡◌, ℕ, zero, suc, ◌+◌, ◌<◌, ◌≤◌, List, [], ◌∷◌, ◌++◌, length, get_or, take, refl, ap, ◌∙◌, zero-add, arith}
use Rattle.std.proofs.lemmas.List.{get_or_push, length_push, get_or-take}
use Rattle.std.proofs.lemmas.List.Elements.{All-nil, All-push}
use Rattle.std.specs.List.{All as Each}
use Rattle.terms.specs.Shape.{Shape, node, entry}
use Rattle.terms.specs.Formed.{All, Formed, AllFormed}
use Rattle.terms.specs.Bank.{Child, NodeM, Bank, table, nothing, gather, shape_of, shapes, shape_at, ClosedFrom, Closed, NodesOkOver, NodesOk, BankLaws}
use Rattle.terms.proofs.Tables.{table_append, table_length, table_front, table_at}

pub shapes_length : (m : Bank) → length (shapes m) ≡ length m
shapes_length m = omega (arith, table_length shape_of [] m)

kept : (m more : Bank) (i : ℕ) → i < length m → shape_at (m ++ more) i ≡ shape_at m i
kept m more i h =
    ap (λ ss. get_or ss i nothing) (table_append shape_of [] m more)
    ∙ table_front shape_of (shapes m) more i nothing (omega (arith, shapes_length m))

added : (m : Bank) (n : NodeM) → shape_at (m ++ (n ∷ [])) (length m) ≡ shape_of (shapes m) n
added m n =
    ap (λ ss. get_or ss (length m) nothing) (table_append shape_of [] m (n ∷ []))
    ∙ get_or_push (shapes m) (shape_of (shapes m) n) nothing (length m) (shapes_length m)

-- ---- a node over its children

-- numbers that are there
abbrev pub Within : ℕ → List Child → Type 0
Within b cs = All (λ (c : Child). c.1 < b) cs

pub within_up : (a b : ℕ) (cs : List Child) → a ≤ b → Within a cs → Within b cs
within_up a b [] h w = tt
within_up a b (c ∷ cs) h w = (omega (arith, w.0), within_up a b cs h w.1)

gather_take : (i : ℕ) (ss : List Shape) (cs : List Child) → Within i cs → gather (take i ss) cs ≡ gather ss cs
gather_take i ss [] w = refl
gather_take i ss (c ∷ cs) w = λ j. entry c.0 (get_or-take i ss c.1 nothing w.0 j) (gather_take i ss cs w.1 j)

closed_from : (b : ℕ) (m : Bank) (i j : ℕ) (d : NodeM) → b + i ≡ j → ClosedFrom b m → i < length m → Within j (get_or m i d).children
closed_from b [] i j d e c h = absurd (omega arith)
closed_from b (n ∷ ns) zero j d e c h = within_up b j n.children (omega arith) c.0
closed_from b (n ∷ ns) (suc i) j d e c h = closed_from (suc b) ns i j d (omega arith) c.1 (omega arith)

-- what a closed bank's node has for children are numbers below its own
pub closed_at : (m : Bank) (i : ℕ) (d : NodeM) → Closed m → i < length m → Within i (get_or m i d).children
closed_at m i d c h = closed_from 0 m i i d (omega arith) c h

opened : (m : Bank) (i : ℕ) (d : NodeM) → Closed m → i < length m → shape_at m i ≡ shape_of (shapes m) (get_or m i d)
opened m i d c h =
    let n = get_or m i d in
    rw zero-add at (table_at shape_of [] m i nothing d h)
    ∙ ap (node n.kind n.leaf) (gather_take i (shapes m) n.children (closed_at m i d c h))

-- ---- well formed trees

gather_formed : (ss : List Shape) (cs : List Child) → Each Formed ss → Within (length ss) cs → AllFormed (gather ss cs)
gather_formed ss [] f w = tt
gather_formed ss (c ∷ cs) f w = (f c.1 nothing w.0, gather_formed ss cs f w.1)

all_formed : (ss : List Shape) (m : Bank) → Each Formed ss → ClosedFrom (length ss) m → NodesOkOver ss m → Each Formed (table shape_of ss m)
all_formed ss [] f c h = f
all_formed ss (n ∷ ns) f c h =
    let s = shape_of ss n in
    let k : length (ss ++ (s ∷ [])) ≡ suc (length ss) = omega (arith, length_push ss s) in
    all_formed (ss ++ (s ∷ [])) ns (All-push Formed ss s f (h.0, gather_formed ss n.children f c.0)) (rw k c.1) h.1

pub formed : (m : Bank) (i : ℕ) → Closed m → NodesOk m → i < length m → Formed (shape_at m i)
formed m i c h k = all_formed [] m (All-nil Formed) c h i nothing (omega (arith, shapes_length m))

pub bank_laws : BankLaws
bank_laws = record { kept = kept; added = added; opened = opened }
