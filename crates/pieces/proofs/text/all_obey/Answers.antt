-- `text::all_obey` meets its contract: what was found so far is the bytes' before this one. Assumes nothing.
use mathlib.Core.Path.{◌≡◌, refl, sym, ap, ◌∙◌}
use mathlib.Core.Bool.{Bool, true, false, ◌&&◌, and-true}
use mathlib.Core.List.{List}
use Prim.Native.Nat.{ℕ, ◌+◌, ◌<◌}
use lib.ListN.{length, get_or, take}
use Rattle.std.proofs.lemmas.List.{take_more, take_all}
use Rattle.tokens.specs.declared.Rule.{Rule}
use Rattle.tokens.specs.Text.{obeys, every}
use Rattle.tokens.proofs.Rules.{every_append}
use Rattle.pieces.proofs.text.all_obey.Goals as goal
use Rattle.pieces.proofs.text.all_obey.Goals.{then-not-obeys_rule, else-not-obeys_rule}

more : (r : Rule) (s : List ℕ) (i : ℕ) → i < length s → every r (take (i + 1) s) ≡ every r (take i s) && obeys r (get_or s i 0)
unfolding every
more r s i h =
    ap (every r) (take_more s i 0 h) ∙ every_append r (take i s) _ ∙
    ap (λ (t : Bool). every r (take i s) && t) (and-true (obeys r (get_or s i 0)))

stops : (a g x w : Bool) → a ≡ false → x ≡ false → w ≡ g && x → a ≡ w
stops a true x w e f i = e ∙ sym (i ∙ f)
stops a false x w e f i = e ∙ sym i

goes : (a g x w : Bool) → a ≡ g → x ≡ true → w ≡ g && x → a ≡ w
goes a g x w e f i = e ∙ sym (i ∙ ap (λ (t : Bool). g && t) f ∙ and-true g)

pub loop-b-init : goal.loop-b-init
unfolding every
loop-b-init c = refl

pub loop-b-preserved : goal.loop-b-preserved
loop-b-preserved c =
    let a = c.args in
    let o = c.loop-b in
    let m = more a.rule _ o.b-index c.loop-b-test.true in
    elim c.if-not-obeys_rule.branch [
      | then-not-obeys_rule w ↦ stops _ _ _ _ w.good-is (sym c.obeys_rule.ensures ∙ w.if-not-obeys_rule.true) m
      | else-not-obeys_rule w ↦ goes _ _ _ _ (w.good-is ∙ o.invariant) (sym c.obeys_rule.ensures ∙ w.if-not-obeys_rule.false) m
    ]

pub returns : goal.returns
returns c =
    let a = c.args in
    c.loop-b.invariant ∙ ap (every a.rule) (take_all c.loop-b.b-index _ c.loop-b-test.false)
