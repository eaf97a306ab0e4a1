-- The table of refusals.
use Rattle.std.specs.Prelude.{ℕ, cond, List, Some, None, Ok, Err, Option, Result, nat_lt, codes}
use Rattle.terms.specs.declared.refusal.Refusal.{Refusal}
use Rattle.terms.specs.declared.refusal.Refusal.TheVariants as refusal

-- the number of a refusal; want of memory has none
abbrev pub number : Refusal → Option ℕ
number refusal.Node = Some 1
number refusal.Leaf = Some 2
number refusal.Text = Some 3
number refusal.Key = Some 4
number refusal.Answer = Some 5
number (refusal.«Type» expected actual) = Some 6
number refusal.Size = Some 7
number refusal.Room = Some 8
number refusal.Memory = None

-- what is said of a refusal: its number and its name in the table
abbrev pub said : Refusal → List ℕ
said refusal.Node = codes "refused 1 (node)"
said refusal.Leaf = codes "refused 2 (leaf)"
said refusal.Text = codes "refused 3 (text)"
said refusal.Key = codes "refused 4 (key)"
said refusal.Answer = codes "refused 5 (answer)"
said (refusal.«Type» expected actual) = codes "refused 6 (type)"
said refusal.Size = codes "refused 7 (size)"
said refusal.Room = codes "refused 8 (room)"
said refusal.Memory = codes "out of memory"

-- a number below the count is a node's
abbrev pub known : ℕ → ℕ → Result (Unit {0}) Refusal
known i n = cond (nat_lt i n) (Ok tt) (Err refusal.Node)
