-- Several literals in a row, their place and their steps not yet in the table. In order: a literal; a row, a literal at a time; the row put
-- into the table. Assumes nothing.
use Rattle.std.specs.Prelude.{Result, Ok, Err}
use Rattle.tokens.specs.declared.Refused.{Refused}
use Prim.Native.Nat.{ℕ, suc, ◌+◌, ◌-◌, ◌%◌, ◌≤◌, ◌<◌}
use native.Mathlib.Omega.{arith}
use mathlib.Core.Path.{◌≡◌, refl, sym, ap, subst, ◌∙◌}
use mathlib.Core.Bool.{Bool, true, false}
use mathlib.Core.List.{List, []}
use mathlib.Core.Option.{none}
use lib.ListN.{length, get_or}
use Rattle.table.specs.declared.Slot.{Slot}
use Rattle.table.specs.Slots.{slots, nil}
use Rattle.numbers.specs.declared.Number as num
use Rattle.tokens.specs.declared.Read.{Read}
use Rattle.tokens.specs.declared.Read.TheVariants as read
use Rattle.tokens.specs.declared.Form.{Form}
use Rattle.tokens.specs.declared.Form.TheVariants as form
use Rattle.tokens.specs.Joined.{joined_at}
use Rattle.tokens.specs.Token.{judged, sequence, token_at}
use Rattle.tokens.specs.Passing.{Shows}
use Rattle.machine.specs.declared.Literal.{Literal}
use Rattle.machine.specs.declared.Literal.TheVariants.{Figure, Name}
use Rattle.machine.specs.State.{Context, State, running}
use Rattle.machine.specs.Skeleton.{solid}
use Rattle.machine.specs.Literal.{Code, bytes_of, found_by, found_at}
use Rattle.machine.specs.Contexts.{settle}
use Rattle.machine.specs.Step.{execute, step, run}
use Rattle.machine.specs.Readable.{NoComment}
use Rattle.machine.proofs.Comments.{none_at, solid_is}
use Rattle.nesting.proofs.BodyTurns.{stands_at, number_shown, operator_shown}
use Rattle.literals.proofs.Standing.{stands_reads}
use Rattle.literals.proofs.Passing.{solid_inside}
use Rattle.state.specs.declared.Registers.{Registers}
use Rattle.state.specs.Layout.{contexts_of, context_at, context_in, aside, abs, Busy}
use Rattle.state.proofs.Parts.{contexts_top, contexts_at}
use Rattle.state.proofs.Ending.{not_on}
use Rattle.sprints.specs.declared.Stride.{Stride}
use Rattle.machine.proofs.Literals.{First, first}
use Rattle.machine.proofs.Inside.{token_inside}
use Rattle.passing.specs.Known.{Reads}
use Rattle.passing.proofs.Knowing.{joins}
use Rattle.sprints.specs.Swift.{TokenThere, LiteralsLeft, marked, origin, ending, ahead, Flat, Strides, lifted, Rowed}
use Rattle.sprints.proofs.Ahead.{ended_ahead, settle_ahead, step_ahead}
use Rattle.sprints.proofs.Level.{stays_none, stays_higher, flat_higher}
use Rattle.sprints.proofs.Swiftly.{run_last, none_run}

-- ---- a place past comments

pub place_fits : (b : List ℕ) (at p : ℕ) → p ≡ solid b at → at ≤ length b → length b ≤ 16777215 → p < 4294967296
place_fits b at p e i l = omega (arith, e, solid_inside b at i)

module _ (b : List ℕ) (at : ℕ) (f : Form) (h : Shows b at f) where
  pub number_none : (raw next : ℕ) → f ≡ form.Number raw next → NoComment (token_at b at)
  number_none raw next e = rw (number_shown b at f raw next e h) tt

  pub operator_none : (n next : ℕ) → f ≡ form.Operator n next → NoComment (token_at b at)
  operator_none n next e = rw (operator_shown b at f n next e h) tt

pub operator_solid : (b : List ℕ) (at n next : ℕ) → token_at b at ≡ Ok (read.Operator n next) → NoComment (token_at b at)
operator_solid b at n next e = rw e tt

pub ends_at : (w : List ℕ) (depth : ℕ) (c : Slot) → 0 < depth → c ≡ get_or (slots w) (1752 + (depth - 1)) nil → c.c ≡ ending w depth
unfolding running context_in
ends_at w depth c h e = sym (ap (λ (l : List Context). (running l).end) (contexts_at (slots w) depth c h e))

-- ---- bytes that have been judged

module _ {b : List ℕ} {at end : ℕ} (h : LiteralsLeft b at end) where
  left_here : NoComment (token_at b at) → First b at end
  left_here c = first b at end h.0 (rw (solid_is b at at (none_at c)) at h.1)

  pub left_stood : TokenThere b at
  left_stood = (by_token (token_at b at) refl, λ c. (left_here c).is_literal)
    where
      by_token : (t : Result Read Refused) → token_at b at ≡ t → Reads t
      by_token (Ok (read.Number value next)) e = tt
      by_token (Ok (read.Identifier len next)) e = tt
      by_token (Ok (read.String count next)) e = tt
      by_token (Ok (read.Operator n next)) e = tt
      by_token (Ok (read.Comment next)) e = tt
      by_token (Err w) e = rw e at (stands_reads _ (left_here (rw e tt)).is_literal)

  pub left_on : (next : ℕ) → NoComment (token_at b at) → (found_at b at).next ≡ solid b next → next < end → LiteralsLeft b next end
  left_on next c e l = (l, rw (← e) (left_here c).rest)

-- ---- a literal

pub strides_none : {top : ℕ} {b w : List ℕ} {r : Registers} (at p : ℕ) (t : Stride) → t ≡ record { height = 129; next = p; number = 0 } → Strides top b at w r w t
strides_none at p t e =
    let h : t.height ≡ 129 = ap (λ (x : Stride). x.height) e in
    record {
      stays = stays_none _ (omega (arith, h));
      back = λ _. refl;
      token = λ k. absurd (k h);
      next = λ k. absurd (k h);
      inside = λ k. absurd (k h);
      told = λ k. absurd (k (ap (λ (x : Stride). x.number) e));
      does = λ k. absurd (k h);
    }

module _ {top : ℕ} {b w w' : List ℕ} {r : Registers} (at h next m n : ℕ) (x : Literal) where
  pub strides_of : ((h ≡ 129 → ⊥) → found_at b at ≡ record { literal = x; next = m }) → m ≡ solid b next → next ≤ length b → NoComment (token_at b at) → ((n ≡ 0 → ⊥) → token_at b at ≡ Ok (read.Operator n next)) → ((code : Code) → Flat top (execute code x) w r w' h)
      → Strides top b at w r w' (record { height = h; next = next; number = n })
  strides_of found em i nc told f =
      record {
        stays = (f []).stays;
        back = (f []).back;
        token = λ k. nc;
        next = λ k. rw (found k) em;
        inside = λ k. i;
        told = told;
        does = λ k code. rw (found k) (f code);
      }

-- a name and a number of several bytes, by their tokens
module _ {top : ℕ} {b w w' : List ℕ} {r : Registers} (at h next : ℕ) where
  pub strides_name : (len s l : ℕ) → token_at b at ≡ Ok (read.Identifier len next) → s ≡ at → l ≡ len → ((code : Code) → Flat top (execute code (Name s l)) w r w' h) → Strides top b at w r w' (record { height = h; next = next; number = 0 })
  unfolding found_at found_by
  strides_name len s l e es el f = strides_of at h next (solid b next) 0 (Name s l) (λ _. rw (e, es, el)) refl (rw e at (token_inside b at)).1 (rw e tt) (λ k. absurd (k refl)) f

  pub strides_figure : (a : num.Number) → token_at b at ≡ Ok (read.Number a next) → ((code : Code) → Flat top (execute code (Figure a)) w r w' h) → Strides top b at w r w' (record { height = h; next = next; number = 0 })
  unfolding found_at found_by
  strides_figure a e f = strides_of at h next (solid b next) 0 (Figure a) (λ _. rw e) refl (rw e at (token_inside b at)).1 (rw e tt) (λ k. absurd (k refl)) f

-- the token of a sequence, as the reader of sequences tells it
pub sequence_read : (b : List ℕ) (at : ℕ) → 192 ≤ get_or b at 0 → Reads (token_at b at) → (t u : Result Read Refused) → t ≡ sequence (get_or b at 0 % 32) at (joined_at b at) → t ≡ u → token_at b at ≡ u
unfolding sequence
sequence_read b at high h t u e f =
    let j = joins b at high h in
    let k : t ≡ judged (get_or b at 0 % 32) at j.data_are j.next = rw j.joined at e in
    j.token ∙ sym k ∙ f

-- marks may stand higher
pub strides_higher : {top more : ℕ} {b w w' : List ℕ} {r : Registers} {at : ℕ} {t : Stride} → top ≤ more → Strides top b at w r w' t → Strides more b at w r w' t
strides_higher l d = record {
  stays = stays_higher l d.stays;
  back = d.back;
  token = d.token;
  next = d.next;
  inside = d.inside;
  told = d.told;
  does = λ k code. flat_higher l (d.does k code);
}

pub fallen : (h : ℕ) → h ≡ 130 → h ≡ 129 → ⊥
fallen h e z = omega arith

-- ---- a row

module _ (code : Code) (b w : List ℕ) (r : Registers) (p n k : ℕ) (S : State) (runs : 0 < r.depth) (quiet : r.skipping ≡ false) where
  -- one literal more
  row_step : {top : ℕ} {w' : List ℕ} (t : Stride) → b ≡ bytes_of code (origin w r.depth) → Strides top b p w r w' t → t.height ≤ 128 → (NoComment (token_at b p) → run k code S ≡ ahead p (n + k) (abs w r))
      → run (suc k) code S ≡ settle (ahead (solid b t.next) (n + suc k) (abs w' (lifted r t.height)))
  row_step {w' = w'} t eb d few on =
      let m = slots w in
      let c = context_at m (r.depth - 1) in
      let cs = contexts_of m (r.depth - 1) in
      let top = contexts_top m r.depth runs in
      let done : t.height ≡ 129 → ⊥ = λ z. omega arith in
      let here = on (d.token done) in
      let f = d.does done code in
      let z : suc (n + k) ≡ n + suc k = omega arith in
      let a : run (suc k) code S ≡ step code (run k code S) = run_last code k S (rw here (ended_ahead (abs w r) c cs top p (n + k))) in
      let e = step_ahead (abs w r) c cs top code b p (n + k) (found_at b p).next (found_at b p).literal eb refl quiet (abs w' (lifted r t.height)) (f.free few _ _) (sym (f.made few).does) in
      a ∙ ap (step code) here ∙ e ∙ (rw (d.next done, z))

  -- a literal that is due, where no comment stands
  row_on : run k code S ≡ settle (ahead (solid b p) (n + k) (abs w r)) → p < ending w r.depth → NoComment (token_at b p) → run k code S ≡ ahead p (n + k) (abs w r)
  row_on off h nc =
      let m = slots w in
      let z = stands_at b p nc in
      let e : settle (ahead p (n + k) (abs w r)) ≡ ahead p (n + k) (abs w r) = settle_ahead (abs w r) (context_at m (r.depth - 1)) (contexts_of m (r.depth - 1)) (contexts_top m r.depth runs) p (n + k) quiet h in
      (rw (← z) at off) ∙ e

-- the registers r and the table w, after so many literals of a row
pub record Rolling (b : List ℕ) (at most clear : ℕ) (w₀ : List ℕ) (r₀ : Registers) (w : List ℕ) (r : Registers) (p left : ℕ) : Type 0 where
  pub busy : Busy w r
  pub same : r ≡ lifted r₀ r.height
  pub long : length w ≡ length w₀
  pub keeps : aside w ≡ aside w₀
  pub here : origin w r₀.depth ≡ origin w₀ r₀.depth
  pub ends : ending w r₀.depth ≡ ending w₀ r₀.depth
  pub low : marked w r.height ≤ clear
  pub within : left ≤ most
  pub idle : left ≡ most → (w ≡ w₀) × (r.height ≡ r₀.height)
  pub inside : left < most → p ≤ length b
  pub on : (code : Code) (n : ℕ) → b ≡ bytes_of code (origin w₀ r₀.depth) → NoComment (token_at b p) → run (most - left) code (ahead at n (abs w₀ r₀)) ≡ ahead p (n + (most - left)) (abs w r)
  pub off : (code : Code) (n : ℕ) → b ≡ bytes_of code (origin w₀ r₀.depth) → left < most → run (most - left) code (ahead at n (abs w₀ r₀)) ≡ settle (ahead (solid b p) (n + (most - left)) (abs w r))

pub rolling_start : {b w : List ℕ} {r : Registers} (at most clear : ℕ) → Busy w r → marked w r.height ≤ clear → Rolling b at most clear w r w r at most
rolling_start {b} {w} {r} at most clear g l =
    record {
      busy = g;
      same = refl;
      long = refl;
      keeps = refl;
      here = refl;
      ends = refl;
      low = l;
      within = omega arith;
      idle = λ _. (refl, refl);
      inside = λ h. absurd (omega arith);
      on = λ code n eb nc. let z : n + (most - most) ≡ n = omega arith in none_run code most (ahead at n (abs w r)) ∙ (rw z);
      off = λ code n eb h. absurd (omega arith);
    }

module _ {b w₀ w : List ℕ} {r₀ r : Registers} {at most clear p left : ℕ} (o : Rolling b at most clear w₀ r₀ w r p left) (quiet : r₀.skipping ≡ false) where
  deep : r.depth ≡ r₀.depth
  deep = ap (λ (x : Registers). x.depth) o.same

  used_still : r.used ≡ r₀.used
  used_still = ap (λ (x : Registers). x.used) o.same

  pub still : r.skipping ≡ false
  still = ap (λ (x : Registers). x.skipping) o.same ∙ quiet

  -- the row ends before the literal at p, an operator or none
  pub rolling_stop : {w' : List ℕ} (f : Bool) (k next : ℕ) → ((k ≡ 0 → ⊥) → NoComment (token_at b p)) → (f ≡ true → NoComment (token_at b p) × ((code : Code) (q m : ℕ) → execute code (found_at b p).literal (ahead q m (abs w r)) ≡ none))
      → w' ≡ w → (code : Code) (n : ℕ) → b ≡ bytes_of code (origin w₀ r₀.depth) → Rowed code b at n most w₀ r₀ w' (record { height = r.height; left = left; at = p; failed = f; number = k; next = next })
  rolling_stop {w'} f k next nc fa e code n eb =
      rw e
      (record {
        fits = o.busy.stack_fits;
        keeps = o.keeps;
        long = o.long;
        frames = rw (deep, used_still) at o.busy.frames_fit;
        stays = o.here;
        ends = o.ends;
        idle = o.idle;
        here = λ h. o.on code n eb (nc h) ∙ ap (λ (x : Registers). ahead p (n + (most - left)) (abs w x)) o.same;
        falls =
            λ h. (
              o.on code n eb (fa h).0 ∙ ap (λ (x : Registers). ahead p (n + (most - left)) (abs w x)) o.same,
              λ q m. subst (λ (x : Registers). execute code (found_at b p).literal (ahead q m (abs w x)) ≡ none) o.same ((fa h).1 code q m),
            );
        does = λ h. o.off code n eb h ∙ ap (λ (x : Registers). settle (ahead (solid b p) (n + (most - left)) (abs w x))) o.same;
      })

  module _ {w' : List ℕ} (t : Stride) (d : Strides clear b p w r w' t) (few : t.height ≤ 128) (more : 0 < left) where
    done : t.height ≡ 129 → ⊥
    done z = omega arith

    rolled : (code : Code) (n : ℕ) → b ≡ bytes_of code (origin w₀ r₀.depth) → run (most - (left - 1)) code (ahead at n (abs w₀ r₀)) ≡ settle (ahead (solid b t.next) (n + (most - (left - 1))) (abs w' (lifted r t.height)))
    rolled code n eb =
        let z : most - (left - 1) ≡ suc (most - left) = omega (arith, o.within) in
        let h : b ≡ bytes_of code (origin w r.depth) = rw (deep, o.here) eb in
        rw z (row_step code b w r p n (most - left) (ahead at n (abs w₀ r₀)) o.busy.runs still t h d few (o.on code n eb))

    anew : lifted r t.height ≡ lifted r₀ t.height
    anew = ap (λ (x : Registers). lifted x t.height) o.same

    stays_there : origin w' r₀.depth ≡ origin w₀ r₀.depth
    stays_there = (rw deep at (d.stays.here few)) ∙ o.here

    ends_there : ending w' r₀.depth ≡ ending w₀ r₀.depth
    ends_there = (rw deep at (d.stays.ends few)) ∙ o.ends

    -- the literal at p done: the row goes on
    pub rolling_on : length w' ≡ length w → t.next < ending w₀ r₀.depth → Rolling b at most clear w₀ r₀ w' (lifted r t.height) t.next (left - 1)
    rolling_on long goes =
        record {
          busy = ((d.does done []).made few).busy;
          same = anew;
          long = long ∙ o.long;
          keeps = d.stays.keeps few ∙ o.keeps;
          here = stays_there;
          ends = ends_there;
          low = d.stays.low few;
          within = omega (arith, o.within);
          idle = λ h. absurd (omega (arith, o.within));
          inside = λ h. d.inside done;
          on =
              λ code n eb nc.
              row_on code b w' (lifted r t.height) t.next n (most - (left - 1)) (ahead at n (abs w₀ r₀)) o.busy.runs still (rolled code n eb) (rw deep (omega (arith, goes, ends_there))) nc;
          off = λ code n eb h. rolled code n eb;
        }

    -- the literal at p done: the row ends
    pub rolling_ends : length w' ≡ length w → (code : Code) (n : ℕ) → b ≡ bytes_of code (origin w₀ r₀.depth) → Rowed code b at n most w₀ r₀ w' (record { height = t.height; left = left - 1; at = t.next; failed = false; number = 0; next = t.next })
    rolling_ends long code n eb =
        record {
          fits = few;
          keeps = d.stays.keeps few ∙ o.keeps;
          long = long ∙ o.long;
          frames = rw (deep, used_still) at ((d.does done []).made few).busy.frames_fit;
          stays = stays_there;
          ends = ends_there;
          idle = λ h. absurd (omega (arith, o.within));
          here = λ h. absurd (h refl);
          falls = λ h. not_on h;
          does = λ h. rolled code n eb ∙ ap (λ (x : Registers). settle (ahead (solid b t.next) (n + (most - (left - 1))) (abs w' x))) anew;
        }
