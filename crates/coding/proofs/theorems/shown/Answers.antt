-- `theorems::shown` carries its theorems.
use Rattle.coding.proofs.Patterns.{sent_is}
use Rattle.coding.proofs.Sent.{messages_well_sent}
use Rattle.coding.proofs.theorems.shown.Goals as goal

pub returns : goal.returns
returns c = record { sends = messages_well_sent; counted = sent_is }
