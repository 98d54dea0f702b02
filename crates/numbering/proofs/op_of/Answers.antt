-- `numbering::op_of` meets its contract. Assumes nothing.
use mathlib.Core.Path.{sym, ap}
use Rattle.machine.specs.Operators.{op_of, op_in, operators}
use Rattle.numbering.proofs.Numbers.{none_met}
use Rattle.numbering.proofs.op_of.Goals as goal

pub returns-in-17 : goal.returns-in-17
unfolding op_of operators op_in
returns-in-17 c = ap op_of (sym c.in-17.is)

pub returns-in-282 : goal.returns-in-282
unfolding op_of operators op_in
returns-in-282 c = ap op_of (sym c.in-282.is)

pub returns-in-283 : goal.returns-in-283
unfolding op_of operators op_in
returns-in-283 c = ap op_of (sym c.in-283.is)

pub returns-in-285 : goal.returns-in-285
unfolding op_of operators op_in
returns-in-285 c = ap op_of (sym c.in-285.is)

pub returns-in-20 : goal.returns-in-20
unfolding op_of operators op_in
returns-in-20 c = ap op_of (sym c.in-20.is)

pub returns-in-21 : goal.returns-in-21
unfolding op_of operators op_in
returns-in-21 c = ap op_of (sym c.in-21.is)

pub returns-in-231 : goal.returns-in-231
unfolding op_of operators op_in
returns-in-231 c = ap op_of (sym c.in-231.is)

pub returns-in-232 : goal.returns-in-232
unfolding op_of operators op_in
returns-in-232 c = ap op_of (sym c.in-232.is)

pub returns-in-233 : goal.returns-in-233
unfolding op_of operators op_in
returns-in-233 c = ap op_of (sym c.in-233.is)

pub returns-in-180 : goal.returns-in-180
unfolding op_of operators op_in
returns-in-180 c = ap op_of (sym c.in-180.is)

pub returns-in-183 : goal.returns-in-183
unfolding op_of operators op_in
returns-in-183 c = ap op_of (sym c.in-183.is)

pub returns-in-181 : goal.returns-in-181
unfolding op_of operators op_in
returns-in-181 c = ap op_of (sym c.in-181.is)

pub returns-in-184 : goal.returns-in-184
unfolding op_of operators op_in
returns-in-184 c = ap op_of (sym c.in-184.is)

pub returns-in-185 : goal.returns-in-185
unfolding op_of operators op_in
returns-in-185 c = ap op_of (sym c.in-185.is)

pub returns-in-186 : goal.returns-in-186
unfolding op_of operators op_in
returns-in-186 c = ap op_of (sym c.in-186.is)

pub returns-in-187 : goal.returns-in-187
unfolding op_of operators op_in
returns-in-187 c = ap op_of (sym c.in-187.is)

pub returns-in-192 : goal.returns-in-192
unfolding op_of operators op_in
returns-in-192 c = ap op_of (sym c.in-192.is)

pub returns-in-188 : goal.returns-in-188
unfolding op_of operators op_in
returns-in-188 c = ap op_of (sym c.in-188.is)

pub returns-in-1 : goal.returns-in-1
unfolding op_of operators op_in
returns-in-1 c = ap op_of (sym c.in-1.is)

pub returns-in-600 : goal.returns-in-600
unfolding op_of operators op_in
returns-in-600 c = ap op_of (sym c.in-600.is)

pub returns-in-205 : goal.returns-in-205
unfolding op_of operators op_in
returns-in-205 c = ap op_of (sym c.in-205.is)

pub returns-in-208 : goal.returns-in-208
unfolding op_of operators op_in
returns-in-208 c = ap op_of (sym c.in-208.is)

pub returns-in-207 : goal.returns-in-207
unfolding op_of operators op_in
returns-in-207 c = ap op_of (sym c.in-207.is)

pub returns-in-202 : goal.returns-in-202
unfolding op_of operators op_in
returns-in-202 c = ap op_of (sym c.in-202.is)

pub returns-in-213 : goal.returns-in-213
unfolding op_of operators op_in
returns-in-213 c = ap op_of (sym c.in-213.is)

pub returns-in-212 : goal.returns-in-212
unfolding op_of operators op_in
returns-in-212 c = ap op_of (sym c.in-212.is)

pub returns-in-220 : goal.returns-in-220
unfolding op_of operators op_in
returns-in-220 c = ap op_of (sym c.in-220.is)

pub returns-in-201 : goal.returns-in-201
unfolding op_of operators op_in
returns-in-201 c = ap op_of (sym c.in-201.is)

pub returns-in-214 : goal.returns-in-214
unfolding op_of operators op_in
returns-in-214 c = ap op_of (sym c.in-214.is)

pub returns-in-211 : goal.returns-in-211
unfolding op_of operators op_in
returns-in-211 c = ap op_of (sym c.in-211.is)

pub returns-in-200 : goal.returns-in-200
unfolding op_of operators op_in
returns-in-200 c = ap op_of (sym c.in-200.is)

pub returns-in-206 : goal.returns-in-206
unfolding op_of operators op_in
returns-in-206 c = ap op_of (sym c.in-206.is)

pub returns-in-203 : goal.returns-in-203
unfolding op_of operators op_in
returns-in-203 c = ap op_of (sym c.in-203.is)

pub returns-in-215 : goal.returns-in-215
unfolding op_of operators op_in
returns-in-215 c = ap op_of (sym c.in-215.is)

pub returns-in-217 : goal.returns-in-217
unfolding op_of operators op_in
returns-in-217 c = ap op_of (sym c.in-217.is)

pub returns-in-210 : goal.returns-in-210
unfolding op_of operators op_in
returns-in-210 c = ap op_of (sym c.in-210.is)

pub returns-in-204 : goal.returns-in-204
unfolding op_of operators op_in
returns-in-204 c = ap op_of (sym c.in-204.is)

pub returns-in-209 : goal.returns-in-209
unfolding op_of operators op_in
returns-in-209 c = ap op_of (sym c.in-209.is)

pub returns-in-216 : goal.returns-in-216
unfolding op_of operators op_in
returns-in-216 c = ap op_of (sym c.in-216.is)

pub returns-in_default : goal.returns-in_default
unfolding op_of operators op_in
returns-in_default c = none_met _ c.in_default.in_default-own.rest
