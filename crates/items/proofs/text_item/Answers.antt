-- `text_item` meets its contract. Assumes nothing.
use Rattle.std.proofs.lemmas.Slice.{between_is}
use Rattle.items.specs.Tokens.{writable}
use mathlib.Core.Path.{ap, ◌∙◌}
use Prim.Native.Nat.{◌+◌}
use lib.Seq.{slice}
use Rattle.items.specs.Judged.{text_token}
use native.Mathlib.Omega.{arith}
use Rattle.items.proofs.Judging.{judged_left, judged_right, judged_yes, rest_bad, start_bad, length_bad, end_bad, place_good}
use Rattle.items.proofs.text_item.Goals as goal
use Rattle.items.proofs.text_item.Goals.{then-c-ne0-via-then-c-ne0, then-c-ne0-via-else-c-ne0+then-a-gt2147483647}
use Rattle.items.proofs.text_item.Goals.{then-c-ne0-via-else-c-ne0+else-a-gt2147483647+then-b-gt2147483647}
use Rattle.items.proofs.text_item.Goals.{else-start-len-via-then-start-len+else-is_text, else-start-len-via-else-start-len}

pub returns-then-c-ne0 : goal.returns-then-c-ne0
returns-then-c-ne0 c =
    let a = c.args in judged_left _ _ _ (elim c.then-c-ne0.branch [
      | then-c-ne0-via-then-c-ne0 w ↦ rest_bad a.x.now a.a a.b a.c w.if-c-ne0.true
      | then-c-ne0-via-else-c-ne0+then-a-gt2147483647 w ↦ start_bad a.x.now a.a a.b a.c w.if-a-gt2147483647.true
      | then-c-ne0-via-else-c-ne0+else-a-gt2147483647+then-b-gt2147483647 w ↦ length_bad a.x.now a.a a.b a.c w.if-b-gt2147483647.true
    ])

pub returns-then-is_text : goal.returns-then-is_text
returns-then-is_text c =
    let a = c.args in
    judged_yes a.x.now _ (text_token a.named (slice a.a (a.a + a.b) a.x.now)) _ _
    (place_good a.x.now a.a a.b a.c c.if-c-ne0.false c.if-a-gt2147483647.false c.if-b-gt2147483647.false c.if-start-len.true)
    (c.is_text.ensures ∙ ap (λ d. writable (text_token a.named d)) (between_is a.x.now a.a (a.a + a.b))) c.if-is_text.true (c.text_at.ensures a.x.now (c.if-start-len.true, omega arith))

pub returns : goal.returns
returns c =
    let a = c.args in elim c.else-start-len.branch [
      | else-start-len-via-then-start-len+else-is_text w ↦ judged_right _ _ _ _ (w.is_text.ensures ∙ ap (λ d. writable (text_token a.named d)) (between_is a.x.now a.a (a.a + a.b))) w.if-is_text.false
      | else-start-len-via-else-start-len w ↦ judged_left _ _ _ (end_bad a.x.now a.a a.b a.c w.if-start-len.false)
    ]
