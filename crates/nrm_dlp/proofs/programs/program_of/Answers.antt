use Rattle.std.proofs.Common.{ℕ, Vec, map}
use Rattle.std.specs.declared.alloc.Global.{Global}
use Rattle.nrm_dlp.proofs.Limited.{limited-parts}
use Rattle.nrm_dlp.proofs.programs.program_of.Goals as goal

pub new-requires : goal.new-requires
new-requires c =
    limited-parts c.args.net.now c.args.caps.items c.args.bounds.items c.in_ok-fares.fares.items (map (λ (v : Vec ℕ Global). v.items) c.in_ok-legs.legs.items)
    c.fares_of_products.ensures.limits c.requires.legs c.requires.caps c.requires.products c.requires.bounds
    c.in_ok-fares.ensures.fares c.in_ok-legs.ensures.legs
