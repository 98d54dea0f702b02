-- Every case (ten to a line) and every whole master of the two tables holds, by computation: every definition that a run meets is opened.
-- Assumes nothing.
use mathlib.Core.Path.{refl}
use Rattle.numbers.specs.Each.{Each, ◌&◌}
use Rattle.machine.specs.Cases.{cases, Holds}
use Rattle.machine.specs.Masters.{masters, RunsWhole}
use Rattle.machine.specs.Cases as machineCases
use Rattle.machine.specs.Contexts as machineContexts
use Rattle.machine.specs.Engine as machineEngine
use Rattle.machine.specs.Literal as machineLiteral
use Rattle.machine.specs.Masters as machineMasters
use Rattle.machine.specs.Operand as machineOperand
use Rattle.machine.specs.Operators as machineOperators
use Rattle.machine.specs.Ops.Arith as machineOpsArith
use Rattle.machine.specs.Ops.Call as machineOpsCall
use Rattle.machine.specs.Ops.Control as machineOpsControl
use Rattle.machine.specs.Ops.Frame as machineOpsFrame
use Rattle.machine.specs.Ops.Stack as machineOpsStack
use Rattle.machine.specs.Ops.Test as machineOpsTest
use Rattle.machine.specs.Ops.Vector as machineOpsVector
use Rattle.machine.specs.Page as machinePage
use Rattle.machine.specs.Promise as machinePromise
use Rattle.machine.specs.Skeleton as machineSkeleton
use Rattle.machine.specs.State as machineState
use Rattle.machine.specs.Step as machineStep
use Rattle.table.specs.Words as tableWords
use Rattle.tokens.specs.Bytes as tokens_bytes
use Rattle.tokens.specs.Format as tokensFormat
use Rattle.tokens.specs.Joined as tokensJoined
use Rattle.tokens.specs.Text as tokensText
use Rattle.tokens.specs.Token as tokensToken
use Rattle.numbers.specs.Arith as numbersArith
use Rattle.numbers.specs.Fraction as numbersFraction
use Rattle.numbers.specs.Gcd as numbersGcd
use Rattle.numbers.specs.Whole as numbersWhole

pub all_hold : Each Holds cases × Each RunsWhole masters
unfolding machineCases.cases machineMasters.rows_bytes machineMasters.judged_whole machineMasters.masters machinePromise.on_sound machinePromise.finished machinePromise.over machinePromise.pages_in machinePromise.load_answer machinePromise.run_answer machinePromise.rows_leaves machineContexts.above machineContexts.beneath machineContexts.over machineContexts.at_end machineContexts.from machineContexts.landed_at machineContexts.landed machineContexts.recover machineContexts.failing machineContexts.leave_at machineContexts.leave machineContexts.skip_at machineContexts.fault machineContexts.settle machineContexts.skipped_in machineContexts.skipped machineEngine.fits machineEngine.limited machineEngine.provided machineEngine.pops machineEngine.push machineEngine.is_cardinal machineEngine.all_cardinals machineEngine.elements_of machineEngine.bit machineEngine.charge machineEngine.build machineEngine.spell machineEngine.compose machineEngine.repeat machineEngine.turn machineEngine.worked machineEngine.last_frame machineEngine.noted machineEngine.store_in machineEngine.store machineEngine.place machineEngine.remove_at machineEngine.remove machineEngine.tally_at machineEngine.tally machineEngine.context_of machineEngine.enter machineEngine.inline machineEngine.kept machineEngine.call machineEngine.does machineEngine.affected machineLiteral.nothing_at machineLiteral.holding_by machineLiteral.holding_at machineLiteral.operator_by machineLiteral.found_by machineLiteral.found_at machineLiteral.numbers machineLiteral.letters_at machineLiteral.text_of machineLiteral.same_bytes machineOperand.cardinal_in machineOperand.cardinal? machineOperand.if_some machineOperand.as_cardinal machineOperand.as_number machineOperand.as_vector machineOperand.as_operator machineOperand.natural machineOperand.whether machineOperand.only_if machineOperand.answered machineOperators.operators machineOperators.op_in machineOperators.op_of machineOperators.body_op_of machineOperators.arity_of machineOperators.effect_of machineOperators.popped machineOperators.performed machineOpsArith.arith_arity machineOpsArith.of_one machineOpsArith.of_two machineOpsArith.arith_effect machineOpsCall.called machineOpsCall.call_effect machineOpsControl.body_arity machineOpsControl.body_effect machineOpsFrame.frame_arity machineOpsFrame.frame_effect machineOpsStack.stack_arity machineOpsStack.mild_code machineOpsStack.stack_effect machineOpsTest.test_arity machineOpsTest.is_less machineOpsTest.is_equal machineOpsTest.type_of machineOpsTest.equals machineOpsTest.compared machineOpsTest.joined machineOpsTest.test_effect machineOpsVector.vector_arity machineOpsVector.vector_effect machinePage.preamble_end machinePage.page_start machinePage.page_end machinePage.result_of machinePage.preamble_result machinePage.page_result machinePage.bodies_of machinePage.preamble_of machinePage.result_at machinePage.bytes_in machinePage.row_words machinePage.value_words machinePage.entry_words machinePage.all_words machinePage.section_words machinePage.result_words machinePage.row_bytes machinePage.rows_from machinePage.rows_of machinePage.section_bytes machineSkeleton.one_of machineSkeleton.role_of machineSkeleton.past_comment machineSkeleton.solid_from machineSkeleton.solid machineSkeleton.follow machineSkeleton.and_then machineSkeleton.held machineSkeleton.passing machineSkeleton.literal_by machineSkeleton.due_by machineSkeleton.due machineSkeleton.literals_from machineSkeleton.body_at machineSkeleton.onward machineSkeleton.span_of machineSkeleton.ended_at machineSkeleton.page_at machineSkeleton.outer_by machineSkeleton.pages_from machineSkeleton.preamble_at machineSkeleton.skeleton_of machineState.zero_frame machineState.running machineStep.effect_at machineStep.execute machineStep.executed machineStep.is_unmark0 machineStep.begun_in machineStep.begun machineStep.literal_step machineStep.ended machineStep.step_by machineStep.due_in machineStep.step machineStep.run machineStep.begin machineStep.outcome tableWords.word_bytes tokens_bytes.value_after tokens_bytes.signed_of tokensFormat.header tokensFormat.starts tokensJoined.within tokensJoined.piece_at tokensJoined.on_piece tokensJoined.joined_from tokensJoined.joined_at tokensJoined.data_of tokensText.obeys tokensText.every tokensText.is_name tokensText.lower_of tokensText.lowered tokensToken.number_read tokensToken.judged tokensToken.sequence tokensToken.token_of tokensToken.token_at numbersArith.sum_of numbersArith.difference_of numbersArith.product_of numbersArith.quotient_of numbersArith.negative_of numbersArith.size_of numbersArith.whole_from numbersArith.floor_of numbersArith.ceiling_of numbersArith.trunc_of numbersArith.round_of numbersArith.less_times numbersArith.mod_of numbersArith.rem_of numbersArith.order_of numbersFraction.limited numbersFraction.ratio_of numbersFraction.is_fraction numbersGcd.gcd_turns numbersGcd.gcd_of numbersWhole.signed numbersWhole.signed_by numbersWhole.floor_by numbersWhole.floor_quotient numbersWhole.trunc_quotient
all_hold = (
  refl & refl & refl & refl & refl & refl & refl & refl & refl & refl
      & refl & refl & refl & refl & refl & refl & refl & refl & refl & refl
      & refl & refl & refl & refl & refl & refl & refl & refl & refl & refl
      & refl & refl & refl & tt,
  (refl, refl, refl)
      & (refl, refl, refl)
      & (refl, refl, refl)
      & (refl, refl, refl)
      & tt,
)
