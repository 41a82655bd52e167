-- The place that stands there is replaced by none.
use Rattle.std.proofs.Common.{◌≡◌, ◌<◌, length, get_or, refl, subst, sym}
use Rattle.nrm_hub.specs.Due.{DueValue, IsDue}
use Rattle.nrm_hub.proofs.DuePlaces.{struck}
use Rattle.nrm_hub.proofs.due.Due.strike.Goals as goal

pub returns-then-is_at : goal.returns-then-is_at
returns-then-is_at c other differ is =
    let old : DueValue = record { places = c.self.inside.places.items; is_all = c.self.inside.is_all } in
    let (short, at) = subst (λ (d : DueValue). (c.args.hint < length d.places) × (get_or d.places c.args.hint c.args.place ≡ c.args.place))
    (sym c.self.view_is) (c.is_at.ensures c.if-is_at.true) in
    struck old c.args.hint c.args.place 65535 _ short at refl other differ (subst (λ (d : DueValue). IsDue d other) (sym c.self.view_is) is)
