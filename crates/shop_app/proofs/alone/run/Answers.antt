use Rattle.std.proofs.Common.{inr, refl, subst}
use Rattle.shop_words.specs.declared.command.Command.TheVariants as command
use Rattle.shop_words.specs.Commands.{IsCommand, IsDrive, IsSession}
use Rattle.shop_words.specs.Options.{value_for}
use Rattle.shop_words.proofs.cited.Chosen.{limit_chosen}
use Rattle.shop_app.proofs.alone.run.Goals as goal

pub session-requires : goal.session-requires
session-requires g c =
    let is : IsSession c.args.words.now c.in-Good-Session.asked = subst (IsCommand c.args.words.now) c.in-Good-Session.field-0-is c.in-Good-Session.ensures.command in
    limit_chosen (value_for is.given) c.in-Good-Session.asked is.chooses

pub drive_browsers-requires : goal.drive_browsers-requires
drive_browsers-requires g c =
    let is : IsDrive c.args.words.now c.in-Good-Drive.asked = subst (IsCommand c.args.words.now) c.in-Good-Drive.field-0-is c.in-Good-Drive.ensures.command in
    limit_chosen (value_for is.given) c.in-Good-Drive.asked.shop is.chooses.workload.shop

pub returns-in-Good-Drive-clause-run : goal.returns-in-Good-Drive-clause-run
returns-in-Good-Drive-clause-run g c other =
    inr (
      command.Drive c.in-Good-Drive.asked,
      subst (IsCommand c.args.words.now) c.in-Good-Drive.field-0-is c.in-Good-Drive.ensures.command,
      c.drive_browsers.ensures.driven (g.S.Source.left c.args.source.now) (g.S.Source.faults c.args.source.now),
    )

pub returns-in-Good-Session-clause-run : goal.returns-in-Good-Session-clause-run
returns-in-Good-Session-clause-run g c other =
    inr (command.Session c.in-Good-Session.asked, subst (IsCommand c.args.words.now) c.in-Good-Session.field-0-is c.in-Good-Session.ensures.command, c.session.ensures.session)

pub returns-in-Good-Gateway-clause-run : goal.returns-in-Good-Gateway-clause-run
returns-in-Good-Gateway-clause-run g c other = inr (command.Gateway, subst (IsCommand c.args.words.now) c.in-Good-Gateway.field-0-is c.in-Good-Gateway.ensures.command, record { pays = c.answer_lines.ensures.pays; outside = refl })
