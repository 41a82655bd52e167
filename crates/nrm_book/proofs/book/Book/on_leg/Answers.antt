use Rattle.std.proofs.Common.{ℕ, ◌≡◌, ◌∙◌, List, Vec, ap, length, map, subst, sym}
use Rattle.std.specs.declared.alloc.Global.{Global}
use Rattle.std.proofs.lemmas.List.{length-map}
use Rattle.nrm_book.specs.Book.{BookValue}
use Rattle.nrm_book.specs.OnLeg.{sold_from}
use Rattle.nrm_book.specs.Seats.{seats_sold}
use Rattle.nrm_book.proofs.OnLeg.{counts-all, sold_from-is}
use Rattle.nrm_book.proofs.book.Book.on_leg.Goals as goal

pub new-requires-clause-counts : goal.new-requires-clause-counts
new-requires-clause-counts c =
    let now = c.args.self.now in
    let are = subst (λ (book : BookValue). c.self.inside.sold ≡ seats_sold book.inventory book.bookings) c.self.view_is c.self.invariant.seats in
    let lists = ap (map (λ (v : Vec ℕ Global). v.items)) c.deref.ensures.value ∙ ap (λ (book : BookValue). book.inventory.legs) c.self.view_is in
    ap length c.by_product.ensures ∙ counts-all now.inventory now.bookings c.self.inside.sold are ∙ sym (ap length lists) ∙ length-map c.deref.result.now (λ (v : Vec ℕ Global). v.items)

pub returns : goal.returns
returns c =
    let now = c.args.self.now in
    let are = subst (λ (book : BookValue). c.self.inside.sold ≡ seats_sold book.inventory book.bookings) c.self.view_is c.self.invariant.seats in
    let lists = ap (map (λ (v : Vec ℕ Global). v.items)) c.deref.ensures.value ∙ ap (λ (book : BookValue). book.inventory.legs) c.self.view_is in
    c.new.ensures ∙ ap (λ (counts : List ℕ). sold_from (map (λ (v : Vec ℕ Global). v.items) c.deref.result.now) counts c.args.leg 0) c.by_product.ensures
    ∙ ap (λ (legs : List (List ℕ)). sold_from legs c.self.inside.sold.by_product c.args.leg 0) lists ∙ sold_from-is now.inventory now.bookings c.self.inside.sold c.args.leg are
