-- Rows of literals, and what stands between them. In order: the running body; a body gone on in; several steps. Assumes nothing.
use Rattle.std.specs.Prelude.{Ok}
use Prim.Native.Nat.{ℕ, suc, ◌+◌, ◌-◌, ◌≤◌, ◌<◌}
use native.Mathlib.Omega.{arith}
use mathlib.Core.Path.{◌≡◌, refl, sym, ap, ◌∙◌}
use mathlib.Core.Bool.{true, false}
use mathlib.Core.Logic.{inl, inr}
use mathlib.Core.Option.{none}
use mathlib.Core.List.{List, [], ◌∷◌}
use lib.ListN.{length, get_or}
use Rattle.table.specs.declared.Slot.{Slot}
use Rattle.table.specs.Slots.{slots, nil}
use Rattle.machine.specs.State.{Context, State, running}
use types.Run.{OneOf}
use Rattle.tokens.specs.declared.Read.TheVariants as read
use Rattle.tokens.specs.Token.{token_at}
use Rattle.machine.specs.declared.Literal.{Literal}
use Rattle.machine.specs.declared.Literal.TheVariants.{Plain, WithBody}
use Rattle.machine.specs.declared.Op.TheVariants.{Calls}
use Rattle.machine.specs.declared.CallOp.TheVariants.{Do}
use Rattle.machine.specs.declared.Role.TheVariants as role
use Rattle.machine.specs.Limits.{most_open}
use Rattle.machine.specs.Skeleton.{role_of, solid, body_at}
use Rattle.machine.specs.Literal.{Code, bytes_of, Found, holding_by, holding_at, operator_by, found_by, found_at}
use Rattle.machine.specs.Contexts.{settle}
use Rattle.machine.specs.Step.{execute, executed, begun, step, run}
use Rattle.machine.proofs.Inside.{token_inside}
use Rattle.machine.proofs.Legible.{Legible, going_on, going_literal}
use Rattle.state.specs.declared.Registers.{Registers}
use Rattle.state.specs.Layout.{contexts_of, context_at, context_in, goes_to, aside, abs, Good, Busy, Done, Begun}
use Rattle.state.proofs.Parts.{contexts_top, contexts_at}
use Rattle.state.proofs.Ending.{not_on}
use Rattle.state.proofs.Trying.{fits_abs}
use Rattle.spans.specs.Memo.{BodyEnds}
use Rattle.spans.proofs.SpanTurns.{end_fits}
use Rattle.names.specs.Names.{both}
use Rattle.origins.proofs.ByOrigin.{nothing_there}
use Rattle.literals.proofs.Standing.{solid_body, stands_solid}
use Rattle.nesting.proofs.BodyTurns.{stands_at}
use Rattle.numbers.proofs.Cond.{split}
use Rattle.effects.proofs.Acting.{marks_low}
use Rattle.contexts.proofs.Entering.{begin_done}
use Rattle.sprints.specs.declared.Reach.{Reach}
use Rattle.sprints.specs.Swift.{marked, origin, ending, ahead, lifted, LiteralsLeft, Rowed}
use Rattle.sprints.proofs.Ahead.{moved_same, execute_free, begun_is, ended_ahead, settle_ahead, due_ahead, step_ahead}
use Rattle.sprints.proofs.Swiftly.{op_role, by_number, not_ended, run_last, none_run}
use Rattle.rides.specs.declared.Further.{Further}
use Rattle.rides.specs.declared.Seat.{Seat}
use Rattle.rides.specs.declared.Ridden.{Ridden}
use Rattle.rides.specs.declared.Ridden.TheVariants.{Due, On}
use Rattle.rides.specs.Rides.{ridden, Paced, Alighted, Led, PastHeld}
use Rattle.rides.proofs.Holding.{over_flat, over_is, over_role, if_role}

-- ---- the running body

-- the registers within a row: one step more is counted
abbrev pub held : Registers → Registers
held r = record { height = r.height; depth = r.depth; used = r.used; steps = r.steps + 1; errors = r.errors; skipping = r.skipping }

pub busy_held : {w : List ℕ} {r : Registers} (most : ℕ) → Good w r → 0 < r.depth → r.steps + most ≤ 1000000 → Busy w (held r)
busy_held most g d h =
    record { room = g.room; stack_fits = g.stack_fits; depth_fits = g.depth_fits; runs = d; cells_fit = g.cells_fit; frames_fit = g.frames_fit; errors_fit = omega (arith, g.errors_fit); steps_fit = omega arith }

-- marks stand lower than two above the stack
pub low_held : (w : List ℕ) (r : Registers) → marked w r.height ≤ r.height + 2
low_held w r = omega (arith, marks_low (slots w) r.height)

pub seat_is : (w : List ℕ) (depth : ℕ) (c : Slot) (at end : ℕ) → 0 < depth → c ≡ get_or (slots w) (1752 + (depth - 1)) nil → at ≡ c.b → end ≡ c.c
    → (c.a ≡ origin w depth) × (at ≡ (running (contexts_of (slots w) depth)).at) × (end ≡ ending w depth)
unfolding running context_in
seat_is w depth c at end h e ea ee =
    let l = contexts_at (slots w) depth c h e in
    (sym (ap (λ (x : List Context). (running x).origin) l), ea ∙ sym (ap (λ (x : List Context). (running x).at) l), ee ∙ sym (ap (λ (x : List Context). (running x).end) l))

-- the literals that are left of it
pub left_there : (code : Code) (w : List ℕ) (r : Registers) (b : List ℕ) (at end : ℕ) → Legible code (abs w r) → 0 < r.depth → b ≡ bytes_of code (origin w r.depth) → at ≡ (running (contexts_of (slots w) r.depth)).at
    → end ≡ ending w r.depth → LiteralsLeft b at end
left_there code w r b at end h runs eb ea ee =
    let g = going_on code (abs w r) h (not_ended (slots w) r.depth runs) in
    rw (eb, ea, ee) (g.before, rw (← (stands_at _ _ (stands_solid _ (going_literal g)))) g.readable)

start_ahead : (w : List ℕ) (r : Registers) (at : ℕ) → at ≡ (running (contexts_of (slots w) r.depth)).at → abs w r ≡ ahead at r.steps (abs w (held r))
start_ahead w r at e =
    ap (λ (l : List Context). record { stack = (abs w r).stack; contexts = l; frame = (abs w r).frame; cells = (abs w r).cells; skipping = r.skipping; steps = r.steps; errors = r.errors })
    (sym (moved_same (contexts_of (slots w) r.depth) at e))

module _ (w w' : List ℕ) (r : Registers) (p n : ℕ) (g : Good w r) (runs : 0 < r.depth) (few : r.steps < 4294967295) (e : slots w' ≡ goes_to (slots w) r.depth p) where
  goes : Begun p w r w' (record { height = r.height; depth = r.depth; used = r.used; steps = r.steps + 1; errors = r.errors; skipping = r.skipping })
  goes = begin_done p g runs few e refl

  goes_ahead : abs w' (record { height = r.height; depth = r.depth; used = r.used; steps = n; errors = r.errors; skipping = r.skipping }) ≡ ahead p n (abs w r)
  goes_ahead =
      ap (λ (s : State). record { stack = s.stack; contexts = s.contexts; frame = s.frame; cells = s.cells; skipping = s.skipping; steps = n; errors = s.errors })
      (goes.does ∙ begun_is (abs w r) (context_at (slots w) (r.depth - 1)) (contexts_of (slots w) (r.depth - 1)) (contexts_top (slots w) r.depth runs) p)

-- ---- a body gone on in

module _ (w w₁ : List ℕ) (r : Registers) (p at end : ℕ) (g : Good w r) (runs : 0 < r.depth) (quiet : r.skipping ≡ false) (few : r.steps < 4294967295) (ep : at ≡ p) (moves : slots w₁ ≡ goes_to (slots w) r.depth at) (long : length w₁ ≡ length w) where
  there : abs w₁ r ≡ ahead p r.steps (abs w r)
  there = rw (← ep) (goes_ahead w w₁ r at r.steps g runs few moves)

  pub good_there : Good w₁ r
  good_there = record { room = omega (arith, g.room, long); stack_fits = g.stack_fits; depth_fits = g.depth_fits; cells_fit = g.cells_fit; frames_fit = (goes w w₁ r at 0 g runs few moves).busy.frames_fit; errors_fit = g.errors_fit }

  kept : aside w₁ ≡ aside w
  kept = (goes w w₁ r at 0 g runs few moves).keeps

  -- it has not ended
  pub alights_on : end ≡ ending w r.depth → at < end → Alighted p w r w₁ (Due r)
  alights_on ee h =
      record {
        good = good_there;
        does = there ∙ sym (settle_ahead (abs w r) (context_at (slots w) (r.depth - 1)) (contexts_of (slots w) (r.depth - 1)) (contexts_top (slots w) r.depth runs) p r.steps quiet (omega arith));
        keeps = kept;
        counted = refl;
        runs = runs;
        on = quiet;
      }

  -- bodies that have ended are left
  pub alights : {w' : List ℕ} {q : Registers} → Done settle w₁ r w' q → Alighted p w r w' (On q)
  alights d =
      record {
        good = d.good;
        does = d.does ∙ ap settle there;
        keeps = d.keeps ∙ kept;
        counted = d.counted;
        runs = tt;
        on = tt;
      }

-- ---- a row and the step that ends it

pub found_as : (f : Found) (n m : ℕ) → f.next ≡ n → m ≡ n → f ≡ record { literal = f.literal; next = m }
found_as f n m e em = λ i. record { literal = f.literal; next = (e ∙ sym em) i }

-- DO at a place
pub do_found : (b : List ℕ) (at n next m : ℕ) → token_at b at ≡ Ok (read.Operator n next) → n ≡ 231 → m ≡ solid b next → found_at b at ≡ record { literal = Plain 231; next = m }
unfolding found_at found_by operator_by
do_found b at n next m e z em = rw (e, z, em, op_role 231 (Calls Do) by_number.6 refl)

-- an operator with its body
held_found : (b : List ℕ) (at n next end : ℕ) → token_at b at ≡ Ok (read.Operator n next) → role_of n ≡ role.Holds → body_at most_open b next ≡ Ok end
    → found_at b at ≡ record { literal = WithBody n (solid b next + 2) (end - 2 - (solid b next + 2)); next = solid b end }
unfolding found_at found_by operator_by holding_at holding_by
held_found b at n next end e r h = rw (e, r, h)

pub if_found : (b : List ℕ) (at n next brace end : ℕ) → token_at b at ≡ Ok (read.Operator n next) → n ≡ 239 → brace ≡ solid b next → body_at most_open b brace ≡ Ok end
    → found_at b at ≡ record { literal = WithBody 239 (brace + 2) (end - 2 - (brace + 2)); next = solid b end }
if_found b at n next brace end e z q h = rw (q, ← z) (held_found b at n next end e (if_role n z) (sym (solid_body b next brace q) ∙ h))

-- of the same bytes
pub goes_as : {b c : List ℕ} {n next at left : ℕ} {u : Further} → b ≡ c → PastHeld c n next at left u → PastHeld b n next at left u
goes_as e h = rw e h

pub body_as : {b c : List ℕ} {end : ℕ} (at : ℕ) → b ≡ c → body_at most_open c at ≡ Ok end → body_at most_open b at ≡ Ok end
body_as at e h = rw e h

-- where there are no bytes, no body ends
pub no_body : (pre body : List ℕ) (o next : ℕ) → (o ≡ 0 → ⊥) → (o ≡ 1 → ⊥) → BodyEnds (bytes_of (both pre body) o) next → ⊥
no_body pre body o next f g e =
    let h : BodyEnds [] next = rw (← (nothing_there pre body o f g)) at e in
    let k = end_fits [] next h.0 h.1 in
    omega (arith, k.0)

pub over_some : (n : ℕ) → OneOf (110 ∷ 240 ∷ []) n → n ≡ 0 → ⊥
over_some n (inl e) z = omega arith
over_some n (inr e) z = omega arith

pub next_inside : (b : List ℕ) (at n next : ℕ) → token_at b at ≡ Ok (read.Operator n next) → next ≤ length b
next_inside b at n next e = (rw e at (token_inside b at)).1

-- the registers after a row
abbrev pub after : Registers → ℕ → Reach → Registers
after r most t = record { height = t.height; depth = r.depth; used = r.used; steps = r.steps + (most - t.left); errors = r.errors; skipping = r.skipping }

-- a row from w to w₁: what the step that ends it starts from
pub record Rode (code : Code) (b w w₁ : List ℕ) (r : Registers) (at most : ℕ) (t : Reach) : Type 0 where
  pub good : Good w r
  pub runs : 0 < r.depth
  pub quiet : r.skipping ≡ false
  pub few : t.left ≤ most
  pub place : at ≡ (running (contexts_of (slots w) r.depth)).at
  pub bytes : b ≡ bytes_of code (origin w r.depth)
  pub row : Rowed code b at r.steps most w (held r) w₁ t

pub rode : {b w w₁ : List ℕ} {most : ℕ} {t : Reach} (pre body : List ℕ) (r h : Registers) (s : Seat) → Good w r → 0 < r.depth → r.skipping ≡ false → h ≡ held r → b ≡ bytes_of (both pre body) s.origin
    → (s.origin ≡ origin w r.depth) × (s.at ≡ (running (contexts_of (slots w) r.depth)).at) × (s.end ≡ ending w r.depth) → t.left ≤ most
    → ((code : Code) (n : ℕ) → b ≡ bytes_of code (origin w h.depth) → Rowed code b s.at n most w h w₁ t) → Rode (both pre body) b w w₁ r s.at most t
rode pre body r h s g runs quiet eh eb seat few f =
    let e = eb ∙ ap (bytes_of (both pre body)) seat.0 in
    record { good = g; runs = runs; quiet = quiet; few = few; place = seat.1; bytes = e; row = (rw eh at f) (both pre body) r.steps e }

module _ {code : Code} {b w w₁ : List ℕ} {r : Registers} {at most : ℕ} {t : Reach} (ρ : Rode code b w w₁ r at most t) where
  abbrev g : Good w r
  g = ρ.good

  abbrev runs : 0 < r.depth
  runs = ρ.runs

  abbrev quiet : r.skipping ≡ false
  quiet = ρ.quiet

  abbrev few : t.left ≤ most
  few = ρ.few

  abbrev ea : at ≡ (running (contexts_of (slots w) r.depth)).at
  ea = ρ.place

  abbrev eb : b ≡ bytes_of code (origin w r.depth)
  eb = ρ.bytes

  abbrev o : Rowed code b at r.steps most w (held r) w₁ t
  o = ρ.row

  pub good_row : Good w₁ (after r most t)
  good_row = record { room = omega (arith, g.room, o.long); stack_fits = o.fits; depth_fits = g.depth_fits; cells_fit = g.cells_fit; frames_fit = o.frames; errors_fit = omega (arith, g.errors_fit) }

  pub bytes_row : b ≡ bytes_of code (origin w₁ r.depth)
  bytes_row = rw o.stays eb

  -- gone on past an operator and the body that it passes over
  module _ (u : Further) (go : PastHeld b t.number t.next t.at t.left u) (token : (t.number ≡ 0 → ⊥) → token_at b t.at ≡ Ok (read.Operator t.number t.next)) where
    abbrev beyond : Reach
    beyond = record { height = t.height; left = u.left; at = u.at; failed = false; number = 0; next = u.at }

    over_does : u.left < t.left → run (most - u.left) code (ahead at r.steps (abs w (held r))) ≡ settle (ahead (solid b u.at) (r.steps + (most - u.left)) (abs w₁ (lifted (held r) t.height)))
    over_does l =
        let p = go.passes l in
        let s : State = abs w₁ (lifted (held r) t.height) in
        let c = context_at (slots w₁) (r.depth - 1) in
        let cs = contexts_of (slots w₁) (r.depth - 1) in
        let top : s.contexts ≡ c ∷ cs = contexts_top (slots w₁) r.depth runs in
        let here = o.here (over_some t.number p.0) in
        let k : most - u.left ≡ suc (most - t.left) = omega (arith, p.1, few) in
        let n : r.steps + suc (most - t.left) ≡ suc (r.steps + (most - t.left)) = omega arith in
        let x : Literal = WithBody t.number (solid b t.next + 2) (u.at - 2 - (solid b t.next + 2)) in
        let found = held_found b t.at t.number t.next u.at (token (over_some t.number p.0)) (over_role t.number p.0) p.2 in
        rw (k, n)
        (run_last code (most - t.left) (ahead at r.steps (abs w (held r))) (rw here (ended_ahead s c cs top t.at (r.steps + (most - t.left)))) ∙ ap (step code) here
        ∙ step_ahead s c cs top code b t.at (r.steps + (most - t.left)) (solid b u.at) x bytes_row found quiet s
        (execute_free code (solid b u.at) (suc (r.steps + (most - t.left))) x s (over_flat code t.number _ _ s p.0))
        (over_is code t.number _ _ s p.0 ∙ fits_abs w₁ (lifted (held r) t.height) o.fits g.depth_fits g.cells_fit))

    rowed_beyond : Rowed code b at r.steps most w (held r) w₁ beyond
    rowed_beyond = record {
      fits = o.fits;
      keeps = o.keeps;
      long = o.long;
      frames = o.frames;
      stays = o.stays;
      ends = o.ends;
      idle = λ e. o.idle (omega (arith, go.fewer, few));
      here = λ f. absurd (f refl);
      falls = λ f. not_on f;
      does = λ l. split u.left t.left over_does (λ h. let z : u.left ≡ t.left = omega (arith, go.fewer) in rw (z, go.stays z) (o.does (omega arith)));
    }

    pub rode_beyond : Rode code b w w₁ r at most beyond
    rode_beyond = record { good = g; runs = runs; quiet = quiet; few = omega (arith, go.fewer, few); place = ea; bytes = eb; row = rowed_beyond }

    pub beyond_fits : u.left < most → (t.left < most → t.at ≤ length b) → u.at ≤ length b
    beyond_fits h f =
        split u.left t.left (λ l. (end_fits b t.next u.at (go.passes l).2).1)
        (λ l. let z : u.left ≡ t.left = omega (arith, go.fewer) in rw (go.stays z) (f (omega arith)))

  -- a literal that is due after it
  module _ {w₂ : List ℕ} {z : Registers} (x : Literal) (m : ℕ) (on : run (most - t.left) code (ahead at r.steps (abs w (held r))) ≡ ahead t.at (r.steps + (most - t.left)) (abs w₁ (after r most t)))
      (found : found_at b t.at ≡ record { literal = x; next = m }) (p : Paced code x m w₁ (after r most t) w₂ z) where
    abbrev s : State
    s = abs w₁ (after r most t)

    top : s.contexts ≡ context_at (slots w₁) (r.depth - 1) ∷ contexts_of (slots w₁) (r.depth - 1)
    top = contexts_top (slots w₁) r.depth runs

    one_more : run (suc (most - t.left)) code (abs w r) ≡ abs w₂ z
    one_more =
        let here : run (most - t.left) code (abs w r) ≡ ahead t.at (r.steps + (most - t.left)) s = rw (start_ahead w r at ea) on in
        let c = context_at (slots w₁) (r.depth - 1) in
        let cs = contexts_of (slots w₁) (r.depth - 1) in
        run_last code (most - t.left) (abs w r) (rw here (ended_ahead s c cs top t.at (r.steps + (most - t.left)))) ∙ ap (step code) here
        ∙ due_ahead s c cs top code b t.at (r.steps + (most - t.left)) m x bytes_row found quiet
        ∙ ap (λ (u : State). executed u (execute code x u)) (sym (begun_is s c cs top m)) ∙ sym p.does

    pub led_paced : 0 < t.left → Led code most w r w₂ (On z)
    led_paced h =
        let k : z.steps - r.steps ≡ suc (most - t.left) = omega (arith, p.counted) in
        record {
          good = p.good;
          does = rw k one_more;
          keeps = p.keeps ∙ o.keeps;
          since = omega (arith, p.counted);
          within = omega (arith, p.counted, few);
          some = omega (arith, p.counted);
          more = tt;
          runs = tt;
          executes = tt;
        }

  -- the literal that is due after it fails
  pub fails_row : (m : ℕ) → t.failed ≡ true → execute code (found_at b t.at).literal (begun m (abs w₁ (after r most t))) ≡ none
  fails_row m f =
      ap (execute code (found_at b t.at).literal) (begun_is (abs w₁ (after r most t)) (context_at (slots w₁) (r.depth - 1)) (contexts_of (slots w₁) (r.depth - 1)) (contexts_top (slots w₁) r.depth runs) m)
      ∙ (o.falls f).1 m (suc (r.steps + (most - t.left)))

  -- the row ends its body, or before a literal that is left to others
  module _ {w₂ : List ℕ} {x : Ridden} (a : Alighted (solid b t.at) w₁ (after r most t) w₂ x) (less : t.left < most) where
    off : run ((ridden x).steps - r.steps) code (abs w r) ≡ abs w₂ (ridden x)
    off =
        let n : (ridden x).steps - r.steps ≡ most - t.left = omega (arith, a.counted) in
        rw n ((rw (start_ahead w r at ea) (o.does less)) ∙ sym a.does)

    pub led_on : Led code most w r w₂ (On (ridden x))
    led_on = record {
      good = a.good;
      does = off;
      keeps = a.keeps ∙ o.keeps;
      since = omega (arith, a.counted);
      within = omega (arith, a.counted, few);
      some = omega (arith, a.counted);
      more = tt;
      runs = tt;
      executes = tt;
    }

  pub led_alights : {w₂ : List ℕ} (x : Ridden) → Alighted (solid b t.at) w₁ (after r most t) w₂ x → t.left < most → 0 < t.left → Led code most w r w₂ x
  led_alights (On z) a less l = led_on a less
  led_alights (Due z) a less l =
      let u = led_on a less in
      record { good = u.good; does = u.does; keeps = u.keeps; since = u.since; within = u.within; some = tt; more = omega (arith, a.counted, few); runs = a.runs; executes = rw a.on }

  -- nothing was done
  pub led_idle : t.left ≡ most → 0 < most → Led code most w r w₁ (Due (after r most t))
  led_idle e h =
      let u = o.idle e in
      let z : r.steps + (most - t.left) - r.steps ≡ most - most = omega arith in
      let n : r.steps + (most - t.left) ≡ r.steps = omega arith in
      record {
        good = good_row;
        does = rw (z, u.0, u.1, n) (none_run code most (abs w r));
        keeps = o.keeps;
        since = omega arith;
        within = omega arith;
        some = tt;
        more = omega arith;
        runs = runs;
        executes = rw quiet;
      }
