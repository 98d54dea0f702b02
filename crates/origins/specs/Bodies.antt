-- The bodies pre and body, two slices of a master that is not too long. While the preamble runs there is no page, and its slice is empty:
-- no bytes are read there either way. Assumes nothing.
use Rattle.std.specs.Prelude.{ℕ, ◌≤◌, List, length}
use Rattle.tokens.specs.Format.{longest}
use Rattle.spans.specs.Memo.{Noted}

pub record Short (pre body : List ℕ) : Type 0 where
  pub pre_fits : length pre ≤ longest
  pub body_fits : length body ≤ longest

-- what is noted of where their bodies end
pub record Noting (pre body of_pre of_body : List ℕ) : Type 0 where
  pub in_pre : Noted pre of_pre
  pub in_body : Noted body of_body
