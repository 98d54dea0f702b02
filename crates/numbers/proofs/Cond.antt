-- Tests: a fact of both answers, by which answer, two tests at once. Assumes nothing.
use mathlib.Core.Path.{◌≡◌, refl, ap, ◌∙◌}
use mathlib.Core.Bool.{Bool, true, false, cond, ◌&&◌, and-false}
use Prim.Native.Nat.{ℕ, ◌<◌, ◌≤◌}
use lib.Dec.{ltb}
use borrow.Author.Tests.{ltb-true, ltb-false}

pub either : {A : Type 0} (P : A → Type 0) (b : Bool) (x y : A) → (b ≡ true → P x) → (b ≡ false → P y) → P (cond b x y)
either P true x y f g = f refl
either P false x y f g = g refl

-- where the test is true the first branch may be replaced
pub under : {A : Type 0} (t : Bool) (x y z : A) → (t ≡ true → x ≡ y) → cond t x z ≡ cond t y z
under true x y z f = f refl
under false x y z f = refl

pub both : (a b : Bool) → a && b ≡ true → (a ≡ true) × (b ≡ true)
both true b h = (refl, h)
both false true h = (h, refl)
both false false h = (h, h)

pub both_are : (a b : Bool) → a ≡ true → b ≡ true → a && b ≡ true
both_are a b h k = ap (λ (x : Bool). x && b) h ∙ k

-- two tests fail where one does
pub no_left : (a b : Bool) → a ≡ false → a && b ≡ false
no_left a b h = ap (λ (x : Bool). x && b) h

pub no_right : (a b : Bool) → b ≡ false → a && b ≡ false
no_right a b h = ap (λ (x : Bool). a && x) h ∙ and-false a

-- by a test
pub by_test : {A : Type 0} (t : Bool) → (t ≡ true → A) → (t ≡ false → A) → A
by_test true f g = f refl
by_test false f g = g refl

-- by which of two numbers is the smaller
pub split : {A : Type 0} (a b : ℕ) → (a < b → A) → (b ≤ a → A) → A
split a b f g = by_test (ltb a b) (λ e. f (ltb-true a b e)) (λ e. g (ltb-false a b e))
