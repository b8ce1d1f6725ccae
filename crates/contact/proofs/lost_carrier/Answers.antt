use Rattle.std.proofs.Common.{◌≡◌, ◌+◌, ◌∙◌, rules}
use Rattle.std.specs.Option.{option_map}
use Rattle.contact.proofs.Carriers.{lost_is}
use Rattle.contact.proofs.lost_carrier.Goals as goal

pub returns : goal.returns
returns g c =
    let number : c.map.result ≡ option_map (λ i. i + 1) c.first_unmarked.result = search rules in
    number ∙ search (rules, lost_is g.S.Site.meaning c.args.site.now c.args.configuration.now)
