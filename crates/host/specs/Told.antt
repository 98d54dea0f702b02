-- What a C host is told: an outcome as its number and its value (01, Outcomes and numbers). Assumes nothing.
use Rattle.std.specs.Prelude.{◌≡◌}
use Rattle.tokens.specs.Refusal.{Outcome, answer_number, answer_value}
use Rattle.host.specs.declared.Answer.{Answer}

-- the answer r tells an outcome for which a call's promise is kept
pub record Told (Promise : Outcome → Type 0) (r : Answer) : Type 0 where
  pub outcome : Outcome
  pub kept : Promise outcome
  pub number : r.no ≡ answer_number outcome
  pub value : r.value ≡ answer_value outcome
