-- `telnet::put_answer` meets its contract: where nothing answers, nothing is put.
use Rattle.output.proofs.Placing.{written, nothing_put}
use Rattle.telnet.proofs.Layers.{no-answer}
use Rattle.telnet.proofs.put_answer.Goals as goal

pub returns-in_default : goal.returns-in_default
returns-in_default c = written _ _ (no-answer c.args.does c.in_default.not-AnswersDont c.in_default.not-AnswersWont) (nothing_put _ _)
