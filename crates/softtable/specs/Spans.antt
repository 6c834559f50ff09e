-- Which readings a span has. Assumes nothing.
use Rattle.std.specs.Prelude.{◌%◌, Bool, not, ◌&&◌, ℤ, ◌-ℤ◌, ◌==◌, int_le, unsigned_abs}
use Rattle.softtable.specs.declared.span.Span.{Span}

-- r is between the two ends, and whole steps, of more than zero, from the first
abbrev pub spans : Span → ℤ → Bool
spans s r = (int_le s.from r && int_le r s.to) && (not (s.apart == 0) && unsigned_abs (r -ℤ s.from) % s.apart == 0)
