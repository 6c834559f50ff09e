-- What it is to read a name. Assumes nothing.
use Rattle.std.specs.Option.{ok_or}
use Rattle.std.specs.Prelude.{◌≡◌, ◌≢◌, ℕ, List, Option, Result, MatchResult}
use Rattle.refusals.specs.declared.UnknownName.{UnknownName}

-- the value that is named, or the error where none is
abbrev pub named : {T : Type 0} → Option T → Result T UnknownName
named value = ok_or value (record {})

-- the result is the value that has this text for its name, or the error where no value has
abbrev pub ReadsName : {T : Type 0} → (T → List ℕ) → List ℕ → Result T UnknownName → Type 0
ReadsName {T} name_of text r = MatchResult r (λ value. name_of value ≡ text) (λ _. (value : T) → name_of value ≢ text)
