-- What a tape stands for.
use Rattle.std.specs.Prelude.{take}
use Rattle.terms.specs.Hashers.{TapeS}
use Rattle.hashers.specs.declared.tape.Tape.{Tape}

-- what was kept, and the count
abbrev pub tape_state : Tape → TapeS
tape_state t = record { front = take t.used t.front; count = t.count }
