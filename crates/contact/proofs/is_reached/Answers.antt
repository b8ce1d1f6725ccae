use Rattle.std.proofs.Common.{◌∙◌, sym, rules}
use Rattle.contact.proofs.Carriers.{no_carrier, reached_is}
use Rattle.contact.proofs.is_reached.Goals as goal

pub returns-in_default : goal.returns-in_default
returns-in_default g c = sym (no_carrier (g.S.Site.meaning c.args.site.now) c.args.configuration.now c.args.carrier (search rules))

pub returns : goal.returns
returns g c = c.is_marked.ensures ∙ search (rules, reached_is g.S.Site.meaning c.args.site.now c.args.configuration.now)
