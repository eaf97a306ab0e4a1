-- Spans within their tables.
use Rattle.std.specs.Prelude.{ℕ, ◌+◌, Bool, nat_le}
use Rattle.leaves.specs.declared.text_list.Span.{Span}

-- a span within n members
abbrev pub span_in : ℕ → Span → Bool
span_in n s = nat_le (s.start + s.len) n
