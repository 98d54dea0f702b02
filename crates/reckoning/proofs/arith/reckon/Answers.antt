-- `arith::reckon` meets its contract. Assumes nothing.
use borrow.Author.Rules.{rules}
use Rattle.reckoning.specs.Reckoning.{reckoned}
use Rattle.reckoning.proofs.arith.reckon.Goals as goal

pub enum_told-1 : goal.enum_told-1
unfolding reckoned
enum_told-1 c = search rules

pub sum-requires : goal.sum-requires
unfolding reckoned
sum-requires c = search rules

pub enum_told-in-Sub : goal.enum_told-in-Sub
unfolding reckoned
enum_told-in-Sub c = search rules

pub difference-requires : goal.difference-requires
unfolding reckoned
difference-requires c = search rules

pub enum_told-in-Neg : goal.enum_told-in-Neg
unfolding reckoned
enum_told-in-Neg c = search rules

pub negative-requires : goal.negative-requires
unfolding reckoned
negative-requires c = search rules

pub enum_told-in-Abs : goal.enum_told-in-Abs
unfolding reckoned
enum_told-in-Abs c = search rules

pub size-requires : goal.size-requires
unfolding reckoned
size-requires c = search rules

pub enum_told-in-Floor : goal.enum_told-in-Floor
unfolding reckoned
enum_told-in-Floor c = search rules

pub floor-requires : goal.floor-requires
unfolding reckoned
floor-requires c = search rules

pub enum_told-in-Ceiling : goal.enum_told-in-Ceiling
unfolding reckoned
enum_told-in-Ceiling c = search rules

pub ceiling-requires : goal.ceiling-requires
unfolding reckoned
ceiling-requires c = search rules

pub enum_told-in-Trunc : goal.enum_told-in-Trunc
unfolding reckoned
enum_told-in-Trunc c = search rules

pub trunc-requires : goal.trunc-requires
unfolding reckoned
trunc-requires c = search rules

pub enum_told-in-Round : goal.enum_told-in-Round
unfolding reckoned
enum_told-in-Round c = search rules

pub round-requires : goal.round-requires
unfolding reckoned
round-requires c = search rules

pub enum_told-in-Mul : goal.enum_told-in-Mul
unfolding reckoned
enum_told-in-Mul c = search rules

pub product-requires : goal.product-requires
unfolding reckoned
product-requires c = search rules

pub enum_told-in-Div : goal.enum_told-in-Div
unfolding reckoned
enum_told-in-Div c = search rules

pub quotient-requires : goal.quotient-requires
unfolding reckoned
quotient-requires c = search rules

pub enum_told-in-Mod : goal.enum_told-in-Mod
unfolding reckoned
enum_told-in-Mod c = search rules

pub modulo-requires : goal.modulo-requires
unfolding reckoned
modulo-requires c = search rules

pub enum_told-in-Rem : goal.enum_told-in-Rem
unfolding reckoned
enum_told-in-Rem c = search rules

pub remainder-requires : goal.remainder-requires
unfolding reckoned
remainder-requires c = search rules

pub returns-in-Add : goal.returns-in-Add
unfolding reckoned
returns-in-Add c = rw c.in-Add.is c.sum.ensures

pub returns-in-Sub : goal.returns-in-Sub
unfolding reckoned
returns-in-Sub c = rw c.in-Sub.is c.difference.ensures

pub returns-in-Neg : goal.returns-in-Neg
unfolding reckoned
returns-in-Neg c = rw c.in-Neg.is c.negative.ensures

pub returns-in-Abs : goal.returns-in-Abs
unfolding reckoned
returns-in-Abs c = rw c.in-Abs.is c.size.ensures

pub returns-in-Floor : goal.returns-in-Floor
unfolding reckoned
returns-in-Floor c = rw c.in-Floor.is c.floor.ensures

pub returns-in-Ceiling : goal.returns-in-Ceiling
unfolding reckoned
returns-in-Ceiling c = rw c.in-Ceiling.is c.ceiling.ensures

pub returns-in-Trunc : goal.returns-in-Trunc
unfolding reckoned
returns-in-Trunc c = rw c.in-Trunc.is c.trunc.ensures

pub returns-in-Round : goal.returns-in-Round
unfolding reckoned
returns-in-Round c = rw c.in-Round.is c.round.ensures

pub returns-in-Mul : goal.returns-in-Mul
unfolding reckoned
returns-in-Mul c = rw c.in-Mul.is c.product.ensures

pub returns-in-Div : goal.returns-in-Div
unfolding reckoned
returns-in-Div c = rw c.in-Div.is c.quotient.ensures

pub returns-in-Mod : goal.returns-in-Mod
unfolding reckoned
returns-in-Mod c = rw c.in-Mod.is c.modulo.ensures

pub returns-in-Rem : goal.returns-in-Rem
unfolding reckoned
returns-in-Rem c = rw c.in-Rem.is c.remainder.ensures
