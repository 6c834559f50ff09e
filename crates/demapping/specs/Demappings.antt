-- The exact, the short and the hard demapping. Assumes nothing.
use Rattle.softbits.specs.SoftBits.{exact, short, hard, up_to}
use Rattle.softbits.specs.Demapping.{Demapping}
use Rattle.softbits.proofs.Ranges.{exact_ranged, short_ranged, hard_ranged, past_zero}

unfoldable pub exact_demapping : Demapping
exact_demapping = record { answer = up_to exact; ranged = exact_ranged; zeros = past_zero exact }

abbrev pub short_demapping : Demapping
short_demapping = record { answer = up_to short; ranged = short_ranged; zeros = past_zero short }

unfoldable pub hard_demapping : Demapping
hard_demapping = record { answer = up_to hard; ranged = hard_ranged; zeros = past_zero hard }
