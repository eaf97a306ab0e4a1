-- What is read of a store.
use Rattle.std.specs.Prelude.{◌≡◌, ℕ, ◌<◌, ◌≤◌, List, length, Ok, Err, Option, Result}
use Rattle.std.specs.Borrow.{Bor}
use Rattle.std.specs.List.{slice_get}
use Rattle.std.specs.Option.{option_map}
use Rattle.terms.specs.Shape.{size}
use Rattle.terms.specs.Bank.{Bank, node_at, shape_at}
use Rattle.terms.specs.declared.refusal.Refusal.{Refusal}
use Rattle.terms.specs.declared.refusal.Refusal.TheVariants as refusal
use Rattle.codes.specs.Codes.{kind_code}
use Rattle.leaves.specs.Values.{leaf_of}
use Rattle.store.specs.declared.view.View.{View}
use Rattle.store.specs.Tables.{place_of}
use Rattle.store.specs.Branches.{child_now}

-- what a view shows
pub record Seen (m : Bank) (i : ℕ) (v : View) : Type 0 where
  pub there : i < length m
  pub kind : kind_code v.kind ≡ (node_at m i).kind
  pub leaf : leaf_of v.leaf ≡ (node_at m i).leaf
  pub degree : v.degree ≡ length (node_at m i).children
  pub size : v.size ≡ size (shape_at m i)
  pub location : place_of v.location ≡ (node_at m i).place

-- a node that is there is seen, and a missing one refused
abbrev pub Viewed : Bank → ℕ → Result View Refusal → Type 0
Viewed m i (Ok v) = Seen m i v
Viewed m i (Err e) = (length m ≤ i) × (e ≡ refusal.Node)

-- the child at a place, if there is one
abbrev pub Linked : Bank → ℕ → ℕ → Result (Option (Bor (List ℕ) × ℕ)) Refusal → Type 0
Linked m i k (Ok c) = (i < length m) × (option_map child_now c ≡ slice_get (node_at m i).children k)
Linked m i k (Err e) = (length m ≤ i) × (e ≡ refusal.Node)
