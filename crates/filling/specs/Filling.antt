-- For the contracts of the inner functions of reading back: the survey, copying a text, and what a token puts into the two tables.
-- Assumes nothing.
use Rattle.std.specs.Prelude.{Result, Ok, Err}
use Rattle.tokens.specs.Refusal.{refusal_at}
use Rattle.tokens.specs.declared.Refused.{Refused}
use Rattle.std.specs.Prelude.{ℕ, ◌+◌, ◌<◌, ◌≤◌, ◌≡◌, Bool, true, false, List, [], ◌∷◌, length}
use Rattle.std.proofs.lemmas.List.Edits.{sets}
use Rattle.tokens.specs.declared.Read.{Read}
use Rattle.tokens.specs.declared.Read.TheVariants.{Number, Identifier, String, Operator, Comment}
use Rattle.tokens.specs.Text.{lowered}
use Rattle.tokens.specs.Joined.{joined_at}
use Rattle.tokens.specs.Token.{token_at}
use Rattle.points.specs.Point.{next_of}
use Rattle.filling.specs.declared.Place.{Place}
use Rattle.filling.specs.declared.Step.{Step}
use Rattle.filling.specs.declared.Survey.{Survey}
use Rattle.items.specs.Tokens.{Token, number, identifier, string, operator}
use Rattle.lists.specs.Reading.{Got, got, refused, read_from}
use Rattle.tokens.specs.Joined.{data_of}
use Rattle.lists.specs.Promise.{texts_of, list_of}

-- the tokens after the header
abbrev pub tokens_in : List ℕ → Got
tokens_in s = read_from (length s) s 21 []

-- ---- the survey

abbrev pub step : ℕ → ℕ → ℕ → Step
step a t n = record { adds = a; text = t; next = n }

abbrev pub survey : ℕ → ℕ → Survey
survey c t = record { count = c; texts = t }

abbrev pub step_of : Result Read Refused → Result Step Refused
step_of (Ok (Number value next)) = Ok (step 1 0 next)
step_of (Ok (Identifier len next)) = Ok (step 1 len next)
step_of (Ok (String count next)) = Ok (step 1 count next)
step_of (Ok (Operator n next)) = Ok (step 1 0 next)
step_of (Ok (Comment next)) = Ok (step 0 0 next)
step_of (Err w) = Err w

unfoldable pub survey_of : Got → Result Survey Refused
survey_of (got ts) = Ok (survey (length ts) (length (texts_of ts)))
survey_of (refused refusal place) = Err (refusal_at refusal place)

-- ---- a text

-- the data d as they stand in the text table: of an identifier (true) in lower case, of a string (false) as they are
unfoldable pub shown : Bool → List ℕ → List ℕ
shown true d = lowered d
shown false d = d

-- an identifier (true) or a string (false)
unfoldable pub text_token : Bool → List ℕ → Token
text_token true d = identifier d
text_token false d = string d

-- ---- a token

-- what a token that was read adds to the list
unfoldable pub added : List ℕ → ℕ → Result Read Refused → List Token
added s at (Ok (Number value next)) = number value ∷ []
added s at (Ok (Identifier len next)) = identifier (lowered (data_of (joined_at s at))) ∷ []
added s at (Ok (String count next)) = string (data_of (joined_at s at)) ∷ []
added s at (Ok (Operator n next)) = operator n ∷ []
added s at (Ok (Comment next)) = []
added s at (Err w) = []

-- a token that was read, and not a refusal
abbrev pub Whole : Result Read Refused → Type 0
Whole (Ok (Number value next)) = Unit
Whole (Ok (Identifier len next)) = Unit
Whole (Ok (String count next)) = Unit
Whole (Ok (Operator n next)) = Unit
Whole (Ok (Comment next)) = Unit
Whole (Err w) = ⊥

-- what the token t that was read at `at` puts into the tables, at p and at o
pub record Put (s : List ℕ) (at : ℕ) (t : Result Read Refused) (p o : ℕ) (list list' text text' : List ℕ) (r : Place) : Type 0 where
  pub to : r.at ≡ next_of at t
  pub list_place : r.p ≡ p + length (list_of o (added s at t))
  pub text_place : r.o ≡ o + length (texts_of (added s at t))
  pub list_is : list' ≡ sets list p (list_of o (added s at t))
  pub text_is : text' ≡ sets text o (texts_of (added s at t))

-- the tables have room for it
pub record Room (s : List ℕ) (at : ℕ) (t : Result Read Refused) (p o : ℕ) (list text : List ℕ) : Type 0 where
  pub inside : at < length s
  pub small : length s ≤ 16777215
  pub is_whole : Whole t
  pub is_there : t ≡ token_at s at
  pub before : o ≤ at
  pub list_room : p + length (list_of o (added s at t)) ≤ length list
  pub text_room : o + length (texts_of (added s at t)) ≤ length text

-- ---- the whole list

-- tables of n and m bytes hold what was read
abbrev pub Holds : Got → ℕ → ℕ → Type 0
Holds (got ts) n m = (length (list_of 0 ts) ≤ n) × (length (texts_of ts) ≤ m)
Holds (refused refusal place) n m = ⊥

unfoldable pub tokens_got : Got → List Token
tokens_got (got ts) = ts
tokens_got (refused refusal place) = []

-- both tables hold the tokens ts from the front on, the rest as found
pub record Fills (ts : List Token) (list list' text text' : List ℕ) : Type 0 where
  pub list_is : list' ≡ sets list 0 (list_of 0 ts)
  pub text_is : text' ≡ sets text 0 (texts_of ts)
