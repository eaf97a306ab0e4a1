-- The pairs as a plain list, and what the functions on them answer.
use Rattle.std.specs.Prelude.{◌≡◌, ℕ, ◌<◌, ◌≤◌, true, false, List, [], length, Ok, Err, Option, Result, vec_items, vec_len, vec_capacity, slice_index_or}
use Rattle.std.specs.Borrow.{Bor}
use Rattle.std.specs.List.{insert}
use Rattle.std.specs.Option.{option_map}
use Rattle.terms.specs.Terms.{Text}
use Rattle.terms.specs.Bank.{Child}
use Rattle.model.specs.Checks.{every, there, keys_rise, key_short}
use Rattle.model.specs.Costs.{keys_bytes}
use Rattle.model.specs.Pairs.{has_key, with_pair}
use Rattle.pairs.specs.declared.pairs.Pairs.TheInside.{Inside}
use Rattle.pairs.specs.Links.{children_of, inside}

-- the pairs, the least key first
abbrev pub entries : Inside → List Child
entries p = children_of (vec_items p.bytes) (vec_items p.links)

-- what holds of any pairs
pub record Draft (ps : List Child) : Type 0 where
  pub few : length ps ≤ 64
  pub bounded : keys_bytes ps ≤ 2048
  pub rises : keys_rise ps ≡ true
  pub short : every key_short ps ≡ true
  pub known : every (there 512) ps ≡ true

-- memory for all pairs that may come, no byte without a key, and each key inside the bytes
pub record Kept (p : Inside) : Type 0 where
  pub bytes_room : 2048 ≤ vec_capacity p.bytes
  pub links_room : 64 ≤ vec_capacity p.links
  pub full : keys_bytes (entries p) ≡ vec_len p.bytes
  pub within : every (inside (vec_len p.bytes)) (vec_items p.links) ≡ true
  pub draft : Draft (entries p)

-- a pair that is read, with the bytes that its key points to
abbrev pub seen : Option (Bor (List ℕ) × ℕ) → Option Child
seen r = option_map (λ p. (p.0.now, p.1)) r

-- the key at a place
abbrev pub key_at : List Child → ℕ → Text
key_at ps i = (slice_index_or ps i ([], 0)).0

-- what a search for a key gives: it stands at i, or is missing and would take the place i
abbrev pub Placing : List Child → Text → Result ℕ ℕ → Type 0
Placing ps k (Ok i) = (has_key k ps ≡ true) × (i < length ps) × (key_at ps i ≡ k)
Placing ps k (Err i) = (has_key k ps ≡ false) × (i ≤ length ps) × ((n : ℕ) → with_pair (k, n) ps ≡ insert ps i (k, n))
