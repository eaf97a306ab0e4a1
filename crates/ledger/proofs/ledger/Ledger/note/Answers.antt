use Rattle.std.proofs.Common.{◌≡◌, ℕ, ◌+◌, ◌∙◌, List, ◌++◌, [], ◌∷◌, Vec, Global, map, length, vec_items, ap, rules, arith}
use Rattle.std.proofs.lemmas.List.{map_push, length-map}
use Rattle.terms.specs.Terms.{Text}
use Rattle.ledger.specs.Ledgers.{long_of, ledger_of}
use Rattle.ledger.proofs.Noting.{longer, kept_is, repeated_is, refused_is}
use Rattle.ledger.proofs.ledger.Ledger.note.Goals as goal
use Rattle.ledger.proofs.ledger.Ledger.note.Goals.{in-Ok-Kept, in-Ok-Repeated, in-Err-Text+in_ok-push-in-Err-Text, Joined-put}

-- the texts of a catalogue's vectors
abbrev texts_of : List (Vec ℕ Global) → List Text
texts_of ns = map vec_items ns

read_is : (c : goal.Joined-put) → c.in_ok-number.number ≡ c.args.self.now.read + 1
read_is c = search rules

pub invariant_of-self-2 : goal.invariant_of-self-2
invariant_of-self-2 c =
    let old = length-map c.args.self.now.catalogue vec_items in
    let new = length-map c.put.new.self vec_items in
    elim c.match-put.branch [
      | in-Ok-Kept w ↦ record { adds = grind (arith, read_is c, old, new, longer (texts_of c.args.self.now.catalogue) c.args.line.now (texts_of c.put.new.self)); ascends = c.put.ensures.ascend }
      | in-Ok-Repeated w ↦ let same = rw w.in-Ok-Repeated.field-0-is at w.in-Ok-Repeated.ensures.settles in record { adds = grind (arith, read_is c, old, new, ap length same.1); ascends = c.put.ensures.ascend }
      | in-Err-Text+in_ok-push-in-Err-Text w ↦ record { adds = grind (arith, read_is c, old, new, ap length w.in-Err-Text.ensures.settles, w.in_ok-push-in-Err-Text.ensures.len); ascends = c.put.ensures.ascend }
    ]

pub returns : goal.returns
returns c =
    let s = ledger_of c.args.self.now in
    let one = read_is (goal.at.returns c).Joined-put in
    elim c.match-put.branch [
      | in-Ok-Kept w ↦ (λ i. record { names = texts_of c.put.new.self; refused = map long_of (vec_items (w.self-is i).1.1.0); read = one i; repeated = (w.self-is i).1.1.1.1.0 }) ∙ kept_is s c.args.line.now (texts_of c.put.new.self) (rw w.in-Ok-Kept.field-0-is at w.in-Ok-Kept.ensures.value)
      | in-Ok-Repeated w ↦ (λ i. record { names = texts_of c.put.new.self; refused = map long_of (vec_items (w.self-is i).1.1.0); read = one i; repeated = (w.self-is i).1.1.1.1.0 }) ∙ repeated_is s c.args.line.now (texts_of c.put.new.self) (rw w.in-Ok-Repeated.field-0-is at w.in-Ok-Repeated.ensures.value)
      | in-Err-Text+in_ok-push-in-Err-Text w ↦
          (λ i. record { names = texts_of c.put.new.self; refused = map long_of (vec_items (w.self-is i).1.1.0); read = one i; repeated = (w.self-is i).1.1.1.1.0 })
          ∙ ap (λ l. record { names = texts_of c.put.new.self; refused = l; read = s.read + 1; repeated = s.repeated }) (ap (map long_of) w.in_ok-push-in-Err-Text.ensures.items ∙ map_push long_of (vec_items c.args.self.now.refused) (record { number = c.in_ok-number.number; bytes = length c.args.line.now }) ∙ (λ i. s.refused ++ (one i, length c.args.line.now) ∷ []))
          ∙ refused_is s c.args.line.now (texts_of c.put.new.self) (rw w.in-Err-Text.field-0-is at w.in-Err-Text.ensures.value)
    ]
