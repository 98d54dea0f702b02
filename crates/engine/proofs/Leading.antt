-- Steps of a run. In order: a literal passed over; a run, some steps at a time; a run that is over. Assumes nothing.
use Prim.Native.Nat.{ℕ, suc, ◌+◌, ◌-◌, ◌≤◌, ◌<◌}
use native.Mathlib.Omega.{arith}
use mathlib.Core.Path.{◌≡◌, refl, sym, ap, ◌∙◌}
use mathlib.Core.Bool.{Bool, true, false, not, ◌&&◌, and-false}
use mathlib.Core.List.{List, [], ◌∷◌}
use borrow.Author.Tests.{eqb-true}
use lib.Dec.{eqb}
use Rattle.table.specs.Slots.{slots}
use Rattle.machine.specs.declared.Literal.{Literal}
use Rattle.machine.specs.declared.Literal.TheVariants.{Figure, Name, Text, Plain, WithBody}
use Rattle.machine.specs.State.{Entry, val, mark, Context, State, running}
use Rattle.machine.specs.Literal.{Code, bytes_of, found_at}
use Rattle.machine.specs.Contexts.{at_end, from, Spot, landed_at, landed, recover, skip_at, skipped_in, skipped}
use Rattle.machine.specs.Step.{execute, executed, is_unmark0, literal_step, begun, ended, step_by, due_in, step, run}
use Rattle.literals.specs.declared.Ahead.{Ahead}
use Rattle.literals.specs.Dues.{Passes}
use Rattle.names.specs.Names.{both}
use Rattle.state.specs.declared.Place.{Place}
use Rattle.state.specs.declared.Registers.{Registers}
use Rattle.state.specs.Layout.{contexts_of, abs, Done, Begun, aside, Good}
use Rattle.state.proofs.Ending.{not_on}
use Rattle.rides.specs.declared.Ridden.{Ridden}
use Rattle.rides.specs.declared.Ridden.TheVariants.{Due, On}
use Rattle.rides.specs.Rides.{Paced, Led}
use Rattle.machine.proofs.Legible.{Legible, legible_run}
use Rattle.sprints.proofs.Swiftly.{run_next, run_both}
use Rattle.paces.specs.Paces.{Stepped}
use Rattle.engine.specs.Steps.{Onward}

-- ---- a literal passed over

-- the running context stands at this depth
pub here_at : (w : List ℕ) (r : Registers) (c : Place) (depth : ℕ) → r.depth ≡ depth → (c.origin ≡ (running (contexts_of (slots w) depth)).origin) × (c.start ≡ (running (contexts_of (slots w) depth)).at) → (c.origin ≡ (running (contexts_of (slots w) r.depth)).origin) × (c.start ≡ (running (contexts_of (slots w) r.depth)).at)
here_at w r c depth e h = rw e h

unmark_by : (n : ℕ) (b : Bool) → eqb n 192 ≡ b → b ≡ true → Plain n ≡ Plain 192
unmark_by n true e h = rw (eqb-true n 192 e)
unmark_by n false e h = not_on h

unmark_is : (x : Literal) → is_unmark0 x ≡ true → x ≡ Plain 192
unfolding is_unmark0
unmark_is (Figure a) h = not_on h
unmark_is (Name start len) h = not_on h
unmark_is (Text start) h = not_on h
unmark_is (Plain n) h = unmark_by n (eqb n 192) refl h
unmark_is (WithBody n start len) h = not_on h

-- the literal where the running body goes on, as skipping asks for it
module _ (w : List ℕ) (r : Registers) (pre body b : List ℕ) (c : Place) (at n : ℕ) (a : Ahead)
    (here : (c.origin ≡ (running (contexts_of (slots w) r.depth)).origin) × (c.start ≡ (running (contexts_of (slots w) r.depth)).at)) (eb : b ≡ bytes_of (both pre body) c.origin) (ea : at ≡ c.start)
    (p : Passes (found_at b at) a) where
  -- it is UNMARK0, and not passed over
  pub unmark_step : {w' : List ℕ} {r' : Registers} → a.unmarks ≡ true → n ≡ a.next → Paced (both pre body) (Plain 192) n w r w' r' → Stepped pre body w r w' r'
  unfolding step step_by due_in literal_step
  unmark_step {w'} {r'} u en d =
      let x : (found_at b at).literal ≡ Plain 192 = unmark_is (found_at b at).literal (sym p.unmarks ∙ u) in
      let s : r.skipping && not (is_unmark0 (found_at b at).literal) ≡ false = rw (← p.unmarks, u) (and-false r.skipping) in
      let z : step (both pre body) (abs w r) ≡ executed (begun n (abs w r)) (execute (both pre body) (Plain 192) (begun n (abs w r))) = rw (← here.0, ← here.1, ← eb, ← ea, s, ← p.next, ← en, x) in
      record { good = d.good; does = d.does ∙ sym z; keeps = d.keeps; counted = d.counted }

  pub skip_step : {w₁ w' : List ℕ} {q r' : Registers} → a.unmarks ≡ false → n ≡ a.next → Begun n w r w₁ q → r.skipping ≡ true → Done skipped w₁ q w' r' → Stepped pre body w r w' r'
  unfolding step step_by due_in literal_step
  skip_step {w₁} {w'} {q} {r'} u en be on d =
      let z : step (both pre body) (abs w r) ≡ skipped (abs w₁ q) = rw (← here.0, ← here.1, ← eb, ← ea, ← p.next, ← en, ← be.does, on, ← p.unmarks, u) in
      record { good = d.good; does = d.does ∙ sym z; keeps = d.keeps ∙ be.keeps; counted = d.counted ∙ be.counted }

-- skipping goes on
landed_skips : (k : ℕ) (s : List Entry) (cs rest : List Context) (again : List Context → Spot) → ((l : List Context) → (again l).skipping ≡ true) → (landed k s cs rest again).skipping ≡ true
unfolding landed landed_at
landed_skips k s cs [] again h = h cs
landed_skips k s cs (c ∷ rest) again h = by_end (at_end c)
  where
    by_end : (b : Bool) → (landed_at b k s c rest again).skipping ≡ true
    by_end true = h rest
    by_end false = refl

recover_skips : (s : List Entry) (cs : List Context) → (recover s cs).skipping ≡ true
unfolding recover
recover_skips [] cs = refl
recover_skips (val v ∷ s) cs = recover_skips s cs
recover_skips (mark k ∷ s) cs = landed_skips k s cs (from k cs) (recover s) (λ l. recover_skips s l)

skips_on : (s : State) → s.skipping ≡ true → (skipped s).skipping ≡ true
unfolding skipped skipped_in skip_at
skips_on s h = by_contexts s.contexts
  where
    by_end : (b : Bool) (c : Context) (cs : List Context) → (skip_at b s.stack c cs).skipping ≡ true
    by_end true c cs = recover_skips s.stack cs
    by_end false c cs = refl

    by_contexts : (l : List Context) → (skipped_in s l).skipping ≡ true
    by_contexts [] = h
    by_contexts (c ∷ cs) = by_end (at_end c) c cs

pub still_skips : {w w' : List ℕ} {q r' : Registers} → Done skipped w q w' r' → q.skipping ≡ true → r'.skipping ≡ true
still_skips {w} {w'} {q} {r'} d h = ap (λ (s : State). s.skipping) d.does ∙ skips_on (abs w q) h

-- ---- a run, some steps at a time

pub legible_then : {s t : State} (code : Code) (n : ℕ) → Legible code s → run n code s ≡ t → Legible code t
legible_then {s} {t} code n h e = rw (← e) (legible_run code n s h)

-- a literal passed over after others
module _ (pre body w₀ w : List ℕ) (r₀ r : Registers) (most left : ℕ) (runs : 0 < r.depth) (few : left ≤ most) (sum : r.steps + left ≡ r₀.steps + most) (same : aside w ≡ aside w₀)
    (inv : run (most - left) (both pre body) (abs w₀ r₀) ≡ abs w r) where
  module _ {w' : List ℕ} {r' : Registers} (h : 0 < left) (d : Stepped pre body w r w' r') where
    pub after_inv : run (most - (left - 1)) (both pre body) (abs w₀ r₀) ≡ abs w' r'
    after_inv =
        let z : most - (left - 1) ≡ suc (most - left) = omega arith in
        rw (z, run_next (both pre body) (most - left) (abs w₀ r₀) w r inv runs) (sym d.does)

    pub after_led : Led (both pre body) most w₀ r₀ w' (On r')
    after_led =
        let z : r'.steps - r₀.steps ≡ most - (left - 1) = omega (arith, d.counted) in
        record {
          good = d.good;
          does = rw z after_inv;
          keeps = d.keeps ∙ same;
          since = omega (arith, d.counted);
          within = omega (arith, d.counted);
          some = omega (arith, d.counted);
          more = tt;
          runs = tt;
          executes = tt;
        }

  pub led_all : Good w r → 0 < most → left ≤ 0 → Led (both pre body) most w₀ r₀ w (On r)
  led_all g h l =
      let z : r.steps - r₀.steps ≡ most - left = omega arith in
      record {
        good = g;
        does = rw z inv;
        keeps = same;
        since = omega arith;
        within = omega arith;
        some = omega arith;
        more = tt;
        runs = tt;
        executes = tt;
      }

-- and one step more
module _ {w w₁ : List ℕ} {r q : Registers} {x : Ridden} (pre body : List ℕ) (most : ℕ) (u : Led (both pre body) most w r w₁ x) where
  -- what holds where the literal that is due wants a step of its own
  pub led_due : x ≡ Due q → Led (both pre body) most w r w₁ (Due q)
  led_due e = rw e at u

  pub onward_paced : {w' : List ℕ} {r' : Registers} → x ≡ Due q → Stepped pre body w₁ q w' r' → Onward (both pre body) most w r w' r'
  onward_paced {w'} {r'} o d =
      let t = led_due o in
      let z : r'.steps - r.steps ≡ suc (q.steps - r.steps) = omega (arith, d.counted, t.since) in
      record {
        good = d.good;
        does = d.does ∙ (rw (z, run_next (both pre body) (q.steps - r.steps) (abs w r) w₁ q t.does t.runs));
        keeps = d.keeps ∙ t.keeps;
        some = omega (arith, d.counted, t.since);
        within = omega (arith, d.counted, t.more);
      }

  pub onward_led : x ≡ On q → Onward (both pre body) most w r w₁ q
  onward_led o =
      let t : Led (both pre body) most w r w₁ (On q) = rw o at u in
      record { good = t.good; does = sym t.does; keeps = t.keeps; some = t.some; within = t.within }

-- the steps left until the last: at first all, and some steps later so many fewer
pub run_whole : (first n : ℕ) (code : Code) (s : State) → run (first + n - first) code s ≡ run n code s
run_whole first n code s = let z : first + n - first ≡ n = omega arith in rw z

pub run_onward : {R : State} {code : Code} {w w' : List ℕ} {r r' : Registers} (last : ℕ) → run (last - r.steps) code (abs w r) ≡ R → Onward code (last - r.steps) w r w' r' → run (last - r'.steps) code (abs w' r') ≡ R
run_onward {R} {code} {w} {w'} {r} {r'} last inv d =
    let k = r'.steps - r.steps in
    let z : last - r.steps ≡ k + (last - r'.steps) = omega (arith, d.some, d.within) in
    rw d.does (sym (run_both code k (last - r'.steps) (abs w r))) ∙ (rw z at inv)

-- ---- a run that is over

module _ {R : State} (pre body : List ℕ) (n : ℕ) (w : List ℕ) (r : Registers) (inv : run n (both pre body) (abs w r) ≡ R) where
  pub run_out : n ≤ 0 → abs w r ≡ R
  unfolding run
  run_out h = let z : n ≡ 0 = omega arith in rw z at inv

  pub run_ended : 0 < n → r.depth ≡ 0 → abs w r ≡ R
  unfolding run ended contexts_of
  run_ended h e = let k : n ≡ suc (n - 1) = omega arith in rw e (rw (k, e) at inv)
