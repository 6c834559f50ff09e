-- `theorems::facts` meets its contract: up to bit m a demapping is its soft bit.
use Rattle.demapping.proofs.Signs.{is_exact, short_gap, exact_tells, short_tells, hard_tells}
use Rattle.demapping.proofs.theorems.facts.Goals as goal

pub returns : goal.returns
returns c = record { exact = is_exact; gap = short_gap; exact_tells = exact_tells; short_tells = short_tells; hard_tells = hard_tells }
