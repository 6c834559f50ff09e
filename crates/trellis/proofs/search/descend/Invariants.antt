-- What the loop of `search::descend` keeps.
use Rattle.std.proofs.Common.{◌≡◌, ℕ, ◌+◌, ◌<◌, ◌≤◌, length, get_or}
use Rattle.paths.specs.Rows.{Passes, bits_of}
use Rattle.trellis.proofs.search.descend.Given as goal

abbrev pub invariant-loop-word : goal.invariant-loop-word
invariant-loop-word g l =
    let rest = l.word-iterator.iter.rest.now in
    record {
      at : Passes (g.C.Code.trellis l.code).code (bits_of l.decisions) l.steps l.end (l.to + length rest) l.state;
      words : (k : ℕ) → k < length rest → get_or rest k 0 ≡ get_or l.decisions (l.to + k) 0;
      below : l.to + length rest ≤ l.steps;
    }
