use Rattle.engine.proofs.Leading.{legible_then, led_due, onward_paced, onward_led}
use native.Mathlib.Omega.{arith}
use Rattle.engine.proofs.steps.onward.Goals as goal

pub pace-requires : goal.pace-requires
pace-requires c =
    let t = led_due _ _ _ c.lead.ensures.0 c.in-Due.is in (t.good, t.runs, t.executes, omega (arith, t.within, c.requires.3), c.requires.4, c.lead.ensures.1, legible_then _ _ c.requires.6 t.does)

pub returns-in-Due : goal.returns-in-Due
returns-in-Due c = (onward_paced _ _ _ c.lead.ensures.0 c.in-Due.is c.pace.ensures.0, c.pace.ensures.1)

pub returns-in-On : goal.returns-in-On
returns-in-On c = (onward_led _ _ _ c.lead.ensures.0 c.in-On.is, c.lead.ensures.1)
