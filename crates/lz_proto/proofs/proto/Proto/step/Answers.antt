use Rattle.lz_proto.proofs.Answering.{answers_moved, answers_waits, barred_answers, answers_wrong, wrong_answers}
use Rattle.lz_proto.proofs.proto.Proto.step.Goals as goal

pub returns-clause-moved : goal.returns-clause-moved
returns-clause-moved c = answers_moved c.args.self.now c.make_act.new.self c.kept.ensures.kept c.args.who c.requires.there c.args.act c.make_act.result c.make_act.ensures

pub returns-clause-waits : goal.returns-clause-waits
returns-clause-waits c = (
  answers_waits c.args.self.now c.make_act.new.self c.kept.ensures.kept c.args.who c.requires.there c.args.act c.make_act.result c.make_act.ensures,
  barred_answers c.args.self.now c.make_act.new.self c.kept.ensures.kept c.args.who c.requires.there c.args.act c.make_act.result c.make_act.ensures,
)

pub returns-clause-wrong : goal.returns-clause-wrong
returns-clause-wrong c = (
  answers_wrong c.args.self.now c.make_act.new.self c.kept.ensures.kept c.args.who c.requires.there c.args.act c.make_act.result c.make_act.ensures c.requires.room,
  wrong_answers c.args.self.now c.make_act.new.self c.kept.ensures.kept c.args.who c.requires.there c.args.act c.make_act.result c.make_act.ensures,
)
