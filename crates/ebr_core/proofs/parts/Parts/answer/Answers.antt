use Rattle.std.proofs.Common.{subst, sym}
use Rattle.ebr_asks.specs.declared.ask.Ask.TheVariants.{Leave}
use Rattle.ebr_core.specs.Engine.{AnswersAsk}
use Rattle.ebr_core.specs.inside.Parts.{state_of}
use Rattle.ebr_core.proofs.Answering.{has_room, is_held, is_engine, leave_answers, leave_sound, stop_answers, stop_sound}
use Rattle.ebr_core.proofs.parts.Parts.answer.Goals as goal

pub stop-requires : goal.stop-requires
stop-requires g c = has_room g.K.Keep.as_keeper c.args.self.now c.args.s c.requires.sound.sound c.requires.live

pub returns-then-self-clause-sound : goal.returns-then-self-clause-sound
returns-then-self-clause-sound g c =
    is_engine g.K.Keep.as_keeper c.args.self.now c.stop.new.self c.args.s c.args.ask c.stop.result c.requires.fit c.requires.sound
    (stop_sound g.K.Keep.as_keeper c.args.self.now c.args.s c.requires.sound.sound c.requires.live c.stop.new.self c.stop.ensures.adds c.stop.ensures.current c.if-self.true)
    (stop_answers g.K.Keep.as_keeper c.args.self.now c.args.s c.requires.sound.sound c.requires.live c.stop.new.self c.stop.ensures.adds c.stop.ensures.current c.if-self.true c.args.ask c.stop.result c.stop.ensures.answer)

pub returns-then-self-clause-answers : goal.returns-then-self-clause-answers
returns-then-self-clause-answers g c = stop_answers g.K.Keep.as_keeper c.args.self.now c.args.s c.requires.sound.sound c.requires.live c.stop.new.self c.stop.ensures.adds c.stop.ensures.current c.if-self.true c.args.ask c.stop.result c.stop.ensures.answer

pub leave-requires-clause-room : goal.leave-requires-clause-room
leave-requires-clause-room g c = has_room g.K.Keep.as_keeper c.args.self.now c.args.s c.requires.sound.sound c.requires.live

pub leave-requires-clause-held : goal.leave-requires-clause-held
leave-requires-clause-held g c = is_held g.K.Keep.as_keeper c.args.self.now c.args.s c.requires.sound.sound c.requires.live c.if-self.false

pub returns-in-Leave-clause-sound : goal.returns-in-Leave-clause-sound
returns-in-Leave-clause-sound g c =
    let k = is_held g.K.Keep.as_keeper c.args.self.now c.args.s c.requires.sound.sound c.requires.live c.if-self.false in
    is_engine g.K.Keep.as_keeper c.args.self.now c.leave.new.self c.args.s Leave c.leave.result tt c.requires.sound
    (leave_sound g.K.Keep.as_keeper c.args.self.now c.args.s c.requires.sound.sound c.requires.live c.leave.new.self c.if-self.false c.leave.ensures.adds (c.leave.ensures.reply k.database k.edition k.session k.holds k.has))
    (leave_answers g.K.Keep.as_keeper c.args.self.now c.args.s c.requires.sound.sound c.requires.live c.leave.new.self c.if-self.false c.leave.ensures.adds (c.leave.ensures.reply k.database k.edition k.session k.holds k.has) c.leave.result c.leave.ensures.answer)

pub returns-in-Leave-clause-answers : goal.returns-in-Leave-clause-answers
returns-in-Leave-clause-answers g c =
    let k = is_held g.K.Keep.as_keeper c.args.self.now c.args.s c.requires.sound.sound c.requires.live c.if-self.false in
    subst (λ ask. AnswersAsk g.K.Keep.as_keeper (state_of g.K.Keep.as_keeper c.args.self.now) (state_of g.K.Keep.as_keeper c.leave.new.self) c.args.s ask c.leave.result) (sym c.in-Leave.is)
    (leave_answers g.K.Keep.as_keeper c.args.self.now c.args.s c.requires.sound.sound c.requires.live c.leave.new.self c.if-self.false c.leave.ensures.adds (c.leave.ensures.reply k.database k.edition k.session k.holds k.has) c.leave.result c.leave.ensures.answer)

pub reply-requires-clause-sound : goal.reply-requires-clause-sound
reply-requires-clause-sound g c = c.requires.sound.sound

pub returns-clause-sound : goal.returns-clause-sound
returns-clause-sound g c = is_engine g.K.Keep.as_keeper c.args.self.now c.reply.new.self c.args.s c.args.ask c.reply.result c.requires.fit c.requires.sound c.reply.ensures.sound c.reply.ensures.answers
