-- What putting a name into a catalogue answers, and which names follow.
use Rattle.std.specs.Prelude.{◌≡◌, ℕ, ◌<◌, ◌≤◌, true, false, cond, ◌⊎◌, List, [], map, length, Ok, Err, vec_items, Result, Vec, nat_lt, slice_index_or}
use Rattle.std.specs.List.{insert}
use Rattle.std.specs.declared.alloc.Global.{Global}
use Rattle.terms.specs.Terms.{Text}
use Rattle.terms.specs.Orders.{text_order}
use Rattle.terms.specs.declared.refusal.Refusal.{Refusal}
use Rattle.terms.specs.declared.refusal.Refusal.TheVariants as refusal
use Rattle.catalogue.specs.Placed.{placed, stands, Among}
use Rattle.catalogue.specs.declared.entry.Entry.{Entry}
use Rattle.catalogue.specs.declared.entry.Entry.TheVariants as entry

-- the texts that some vectors hold
abbrev pub texts : Vec (Vec ℕ Global) Global → List Text
texts v = map vec_items (vec_items v)

-- what a search for a name gives: it stands at i, or is missing and would be placed at i
abbrev pub Placing : List Text → Text → Result ℕ ℕ → Type 0
Placing ns t (Ok i) = (stands text_order t ns ≡ true) × (i < length ns) × (slice_index_or ns i [] ≡ t) × (placed text_order t ns ≡ ns)
Placing ns t (Err i) = (stands text_order t ns ≡ false) × (i ≤ length ns) × (placed text_order t ns ≡ insert ns i t)

-- the answer where memory suffices
abbrev pub put_answer : List Text → Text → Result Entry Refusal
put_answer ns t = cond (nat_lt 512 (length t)) (Err refusal.Text) (cond (stands text_order t ns) (Ok entry.Repeated) (Ok entry.Kept))

-- the names that follow where memory suffices
abbrev pub put_names : List Text → Text → List Text
put_names ns t = cond (nat_lt 512 (length t)) ns (placed text_order t ns)

-- either all is as where memory suffices, or want of memory comes in place of Kept, and nothing changes
abbrev pub Puts : List Text → Text → Result Entry Refusal → List Text → Type 0
Puts ns t r after = ((r ≡ put_answer ns t) × (after ≡ put_names ns t)) ⊎ ((r ≡ Err refusal.Memory) × (put_answer ns t ≡ Ok entry.Kept) × (after ≡ ns))

-- a name kept was not there, and the members are those before and the name; a name repeated was there, and nothing changes, and so at a refusal
abbrev pub Settles : List Text → Text → Result Entry Refusal → List Text → Type 0
Settles ns t (Ok entry.Kept) after = (Among t ns → ⊥) × ((z : Text) → (Among z after → (z ≡ t) ⊎ Among z ns) × ((z ≡ t) ⊎ Among z ns → Among z after))
Settles ns t (Ok entry.Repeated) after = Among t ns × (after ≡ ns)
Settles ns t (Err e) after = after ≡ ns
