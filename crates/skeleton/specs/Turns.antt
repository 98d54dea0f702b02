-- One token where a page or END is due, for contracts of inner functions alone: `pages_from` of `machine` a token at a time. Assumes nothing.
use Rattle.std.specs.Prelude.{Result, Ok, Err, ℕ, cond, List, eqb, leb, length}
use Rattle.tokens.specs.Refusal.{refusal_at}
use Rattle.tokens.specs.declared.Refused.{Refused}
use Rattle.tokens.specs.declared.Read.{Read}
use Rattle.tokens.specs.declared.Read.TheVariants.{Number, Identifier, String, Operator, Comment}
use Rattle.tokens.specs.declared.Refusal.TheVariants.{NotAllowed, AfterEnd, TooManyPages}
use Rattle.tokens.specs.Token.{token_at}
use Rattle.machine.specs.Limits.{most_open, most_pages}
use Rattle.machine.specs.Skeleton.{opening, ending, body_at}
use Rattle.skeleton.specs.declared.Turn.{Turn}
use Rattle.skeleton.specs.declared.Turn.TheVariants.{Aside, Page, Ended}

unfoldable pub page_or : Result ℕ Refused → Result Turn Refused
page_or (Ok next) = Ok (Page next)
page_or (Err w) = Err w

-- so many bodies have been read, the preamble's among them
unfoldable pub page_turn : List ℕ → ℕ → ℕ → Result Turn Refused
page_turn s bodies at = cond (leb bodies most_pages) (page_or (body_at most_open s at)) (Err (refusal_at TooManyPages at))

unfoldable pub end_turn : List ℕ → ℕ → Result Turn Refused
end_turn s next = cond (eqb next (length s)) (Ok Ended) (Err (refusal_at AfterEnd next))

unfoldable pub turn_by : List ℕ → ℕ → ℕ → Result Read Refused → Result Turn Refused
turn_by s bodies at (Ok (Number value next)) = Err (refusal_at NotAllowed at)
turn_by s bodies at (Ok (Identifier len next)) = Err (refusal_at NotAllowed at)
turn_by s bodies at (Ok (String count next)) = Err (refusal_at NotAllowed at)
turn_by s bodies at (Ok (Operator n next)) =
    cond (eqb n opening) (page_turn s bodies at) (cond (eqb n ending) (end_turn s next) (Err (refusal_at NotAllowed at)))
turn_by s bodies at (Ok (Comment next)) = Ok (Aside next)
turn_by s bodies at (Err w) = Err w

unfoldable pub turn_at : List ℕ → ℕ → ℕ → Result Turn Refused
turn_at s bodies at = turn_by s bodies at (token_at s at)
