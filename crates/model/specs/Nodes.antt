-- The nodes that the builders' calls are for.
use Rattle.std.specs.Prelude.{ℕ, List, [], ◌∷◌, Option}
use Rattle.terms.specs.Terms.{Text, NameS, LiteralS, TypeS, ElemS, Leaf}
use Rattle.terms.specs.Bank.{Loc, Child, NodeM}

-- children without keys
abbrev pub numbered : List ℕ → List Child
numbered [] = []
numbered (i ∷ is) = ([], i) ∷ numbered is

-- a node of a kind, by its number
abbrev pub of_kind : ℕ → Leaf → List Child → Option Loc → NodeM
of_kind k l cs p = record { kind = k; leaf = l; children = cs; place = p }

abbrev pub lit : LiteralS → Option Loc → NodeM
lit l p = of_kind 0 (Leaf.literal l) [] p

abbrev pub var : ℕ → Option Loc → NodeM
var c p = of_kind 1 (Leaf.code c) [] p

abbrev pub slot : ℕ → Option Loc → NodeM
slot c p = of_kind 2 (Leaf.code c) [] p

abbrev pub unknown : Text → Option TypeS → Option Loc → NodeM
unknown t o p = of_kind 3 (Leaf.unknown t o) [] p

abbrev pub ite : ℕ → ℕ → ℕ → Option Loc → NodeM
ite a b c p = of_kind 4 Leaf.bare (numbered (a ∷ b ∷ c ∷ [])) p

abbrev pub and : ℕ → ℕ → Option Loc → NodeM
and a b p = of_kind 5 Leaf.bare (numbered (a ∷ b ∷ [])) p

abbrev pub or : ℕ → ℕ → Option Loc → NodeM
or a b p = of_kind 6 Leaf.bare (numbered (a ∷ b ∷ [])) p

abbrev pub unary_app : ℕ → ℕ → Option Loc → NodeM
unary_app op a p = of_kind 7 (Leaf.code op) (numbered (a ∷ [])) p

abbrev pub binary_app : ℕ → ℕ → ℕ → Option Loc → NodeM
binary_app op a b p = of_kind 8 (Leaf.code op) (numbered (a ∷ b ∷ [])) p

abbrev pub call_extension_fn : NameS → List ℕ → Option Loc → NodeM
call_extension_fn n is p = of_kind 9 (Leaf.name n) (numbered is) p

abbrev pub get_attr : ℕ → Text → Option Loc → NodeM
get_attr a t p = of_kind 10 (Leaf.text t) (numbered (a ∷ [])) p

abbrev pub has_attr : ℕ → Text → Option Loc → NodeM
has_attr a t p = of_kind 11 (Leaf.text t) (numbered (a ∷ [])) p

abbrev pub extended_has_attr : ℕ → List Text → Option Loc → NodeM
extended_has_attr a ts p = of_kind 12 (Leaf.texts ts) (numbered (a ∷ [])) p

abbrev pub like : ℕ → List ElemS → Option Loc → NodeM
like a e p = of_kind 13 (Leaf.pattern e) (numbered (a ∷ [])) p

abbrev pub set : List ℕ → Option Loc → NodeM
set is p = of_kind 14 Leaf.bare (numbered is) p

abbrev pub fields : List Child → Option Loc → NodeM
fields cs p = of_kind 15 Leaf.bare cs p

abbrev pub is_entity_type : ℕ → NameS → Option Loc → NodeM
is_entity_type a n p = of_kind 16 (Leaf.name n) (numbered (a ∷ [])) p
