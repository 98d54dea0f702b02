-- The token list that bytes are (01, What the controller takes: reading back "drops comments, takes the end of the bytes as the list's
-- end"; R10: 10, 1, then left to right; every operator number is a plain token). Assumes nothing.
use Rattle.std.specs.Prelude.{Result, Ok, Err}
use Rattle.tokens.specs.declared.Refused.{Refused}
use Rattle.std.specs.Prelude.{ℕ, zero, suc, cond, List, [], ◌∷◌, ◌++◌, length, nat_le, nat_lt}
use Rattle.tokens.specs.declared.Read.{Read}
use Rattle.tokens.specs.declared.Read.TheVariants.{Number, Identifier, String, Operator, Comment}
use Rattle.tokens.specs.declared.Refusal.{Refusal}
use Rattle.tokens.specs.declared.Refusal.TheVariants.{BadHeader, TooLong}
use Rattle.tokens.specs.Format.{header, starts, longest}
use Rattle.tokens.specs.Text.{lowered}
use Rattle.tokens.specs.Joined.{data_of, joined_at}
use Rattle.tokens.specs.Token.{token_at}
use Rattle.items.specs.Tokens.{Token, number, identifier, string, operator}

-- the tokens, or the refusal met and its place
pub data Got : Type 0 where
  got : List Token → Got
  refused : Refusal → ℕ → Got

-- the token that was read at `at` is put after ts and reading goes on; a comment adds nothing
unfoldable pub on_read : List ℕ → ℕ → List Token → Result Read Refused → (ℕ → List Token → Got) → Got
on_read s at ts (Ok (Number value next)) more = more next (ts ++ (number value ∷ []))
on_read s at ts (Ok (Identifier len next)) more = more next (ts ++ (identifier (lowered (data_of (joined_at s at))) ∷ []))
on_read s at ts (Ok (String count next)) more = more next (ts ++ (string (data_of (joined_at s at)) ∷ []))
on_read s at ts (Ok (Operator n next)) more = more next (ts ++ (operator n ∷ []))
on_read s at ts (Ok (Comment next)) more = more next ts
on_read s at ts (Err w) more = refused w.refusal w.place

-- ts, and the tokens from `at` to the end of the bytes, at most k of them
unfoldable pub read_from : ℕ → List ℕ → ℕ → List Token → Got
read_from zero s at ts = got ts
read_from (suc k) s at ts = let more = on_read s at ts (token_at s at) (read_from k s) in cond (nat_lt at (length s)) more (got ts)

-- header, then tokens
unfoldable pub read_list : List ℕ → Got
read_list s =
    let more = cond (starts header s) (read_from (length s) s 21 []) (refused BadHeader 0) in
    cond (nat_le (length s) longest) more (refused TooLong 0)
