use Rattle.std.proofs.Common.{true, false, ◌∙◌, subst, sym}
use Rattle.ebr_core.specs.Engine.{AnswersAsk}
use Rattle.ebr_core.specs.Machine.{Reply}
use Rattle.ebr_core.specs.inside.Held.{Fails}
use Rattle.ebr_core.specs.inside.Parts.{state_of}
use Rattle.ebr_core.proofs.Answering.{asked_answers, asked_sound, idle_answers, idle_sound, is_held, last_answers, last_sound, not_short, room_on}
use Rattle.ebr_core.proofs.parts.Parts.reply.Goals as goal

pub try_reply-requires-clause-held : goal.try_reply-requires-clause-held
try_reply-requires-clause-held g c = is_held g.K.Keep.as_keeper c.args.self.now c.args.s c.requires.sound c.requires.live c.requires.runs

pub give-requires : goal.give-requires
give-requires g c = room_on g.K.Keep.as_keeper c.args.self.now c.args.s c.requires.sound c.requires.live c.try_reply.new.self c.try_reply.ensures.keeps

pub pass_by-requires : goal.pass_by-requires
pass_by-requires g c = room_on g.K.Keep.as_keeper c.args.self.now c.args.s c.requires.sound c.requires.live c.try_reply.new.self c.try_reply.ensures.keeps

pub give_up-requires : goal.give_up-requires
give_up-requires g c = room_on g.K.Keep.as_keeper c.args.self.now c.args.s c.requires.sound c.requires.live c.try_reply.new.self c.try_reply.ensures.keeps

pub returns-in-Ok-clause-sound : goal.returns-in-Ok-clause-sound
returns-in-Ok-clause-sound g c =
    let k = is_held g.K.Keep.as_keeper c.args.self.now c.args.s c.requires.sound c.requires.live c.requires.runs in
    let t = c.in-Ok.ensures.reply k.database k.edition k.session k.holds k.has in
    asked_sound g.K.Keep.as_keeper c.args.self.now c.args.s c.requires.sound c.requires.live c.give.new.self c.requires.runs c.try_reply.new.self c.in-Ok.ensures.keeps c.args.ask c.requires.stays
    c.in-Ok.given.0 c.in-Ok.copy c.in-Ok.given.1 c.give.ensures.adds t.1 c.give.ensures.current t.0 c.in-Ok.ensures.book c.in-Ok.ensures.room

pub returns-in-Ok-clause-answers : goal.returns-in-Ok-clause-answers
returns-in-Ok-clause-answers g c =
    let k = is_held g.K.Keep.as_keeper c.args.self.now c.args.s c.requires.sound c.requires.live c.requires.runs in
    let t = c.in-Ok.ensures.reply k.database k.edition k.session k.holds k.has in
    subst (λ y. AnswersAsk g.K.Keep.as_keeper (state_of g.K.Keep.as_keeper c.args.self.now) (state_of g.K.Keep.as_keeper c.give.new.self) c.args.s c.args.ask y) (sym c.give.ensures.answer)
    (asked_answers g.K.Keep.as_keeper c.args.self.now c.args.s c.requires.sound c.requires.live c.give.new.self c.requires.runs c.try_reply.new.self c.in-Ok.ensures.keeps c.args.ask c.requires.stays
    c.in-Ok.given.0 c.in-Ok.copy c.in-Ok.given.1 c.give.ensures.adds t.1 c.give.ensures.current t.0 c.in-Ok.ensures.book c.in-Ok.ensures.room)

pub returns-then-is_light-clause-sound : goal.returns-then-is_light-clause-sound
returns-then-is_light-clause-sound g c =
    let k = is_held g.K.Keep.as_keeper c.args.self.now c.args.s c.requires.sound c.requires.live c.requires.runs in
    let light = sym c.is_light.ensures ∙ c.if-is_light.true in
    idle_sound g.K.Keep.as_keeper c.args.self.now c.args.s c.requires.sound c.requires.live c.pass_by.new.self c.requires.runs c.try_reply.new.self c.in-Err.ensures.keeps c.args.ask c.requires.stays
    light (not_short c.args.self.now.history.items c.args.s c.args.ask c.requires.stays c.requires.short) c.pass_by.ensures.adds c.pass_by.ensures.current
    (subst (λ b. Fails g.K.Keep.as_keeper b c.args.self.now.current c.try_reply.new.self.current k.database (Reply k.database c.args.s c.args.ask).records c.in-Err.why) light (c.in-Err.ensures.reply k.database k.edition k.session k.holds k.has))

pub returns-then-is_light-clause-answers : goal.returns-then-is_light-clause-answers
returns-then-is_light-clause-answers g c =
    let k = is_held g.K.Keep.as_keeper c.args.self.now c.args.s c.requires.sound c.requires.live c.requires.runs in
    let light = sym c.is_light.ensures ∙ c.if-is_light.true in
    idle_answers g.K.Keep.as_keeper c.args.self.now c.args.s c.requires.sound c.requires.live c.pass_by.new.self c.requires.runs c.try_reply.new.self c.in-Err.ensures.keeps c.args.ask c.requires.stays
    light (not_short c.args.self.now.history.items c.args.s c.args.ask c.requires.stays c.requires.short) c.pass_by.ensures.adds c.pass_by.ensures.current
    (subst (λ b. Fails g.K.Keep.as_keeper b c.args.self.now.current c.try_reply.new.self.current k.database (Reply k.database c.args.s c.args.ask).records c.in-Err.why) light (c.in-Err.ensures.reply k.database k.edition k.session k.holds k.has)) c.pass_by.result c.pass_by.ensures.answer

pub returns-else-is_light-clause-sound : goal.returns-else-is_light-clause-sound
returns-else-is_light-clause-sound g c =
    let k = is_held g.K.Keep.as_keeper c.args.self.now c.args.s c.requires.sound c.requires.live c.requires.runs in
    let heavy = sym c.is_light.ensures ∙ c.if-is_light.false in
    last_sound g.K.Keep.as_keeper c.args.self.now c.args.s c.requires.sound c.requires.live c.give_up.new.self c.requires.runs c.try_reply.new.self c.in-Err.ensures.keeps c.args.ask c.requires.stays
    c.in-Err.why heavy (not_short c.args.self.now.history.items c.args.s c.args.ask c.requires.stays c.requires.short) c.give_up.ensures.gives c.give_up.ensures.current
    (subst (λ b. Fails g.K.Keep.as_keeper b c.args.self.now.current c.try_reply.new.self.current k.database (Reply k.database c.args.s c.args.ask).records c.in-Err.why) heavy (c.in-Err.ensures.reply k.database k.edition k.session k.holds k.has))

pub returns-else-is_light-clause-answers : goal.returns-else-is_light-clause-answers
returns-else-is_light-clause-answers g c =
    let k = is_held g.K.Keep.as_keeper c.args.self.now c.args.s c.requires.sound c.requires.live c.requires.runs in
    let heavy = sym c.is_light.ensures ∙ c.if-is_light.false in
    last_answers g.K.Keep.as_keeper c.args.self.now c.args.s c.requires.sound c.requires.live c.give_up.new.self c.requires.runs c.try_reply.new.self c.in-Err.ensures.keeps c.args.ask c.requires.stays
    c.in-Err.why heavy (not_short c.args.self.now.history.items c.args.s c.args.ask c.requires.stays c.requires.short) c.give_up.ensures.gives c.give_up.ensures.current
    (subst (λ b. Fails g.K.Keep.as_keeper b c.args.self.now.current c.try_reply.new.self.current k.database (Reply k.database c.args.s c.args.ask).records c.in-Err.why) heavy (c.in-Err.ensures.reply k.database k.edition k.session k.holds k.has)) c.give_up.result c.give_up.ensures.answer
