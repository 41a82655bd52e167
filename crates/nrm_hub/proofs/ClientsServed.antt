-- The desks are served: what stands of the register and what stands of the clients, in one.
use Rattle.std.proofs.Common.{sym}
use Rattle.nrm_hub.specs.Desks.{DesksAreServed}
use Rattle.nrm_hub.proofs.ClientsStand.{clients-stand}
use Rattle.nrm_hub.proofs.Registers.{register-stands}

pub desks-served : DesksAreServed
desks-served start w is comes =
    let register = register-stands start w is comes in
    let clients = clients-stand start w comes in
    record {
      run = register.run;
      rows = register.rows;
      lines = clients.lines;
      sent = λ k. record { within = clients.within; kept = register.kept; sent = clients.sent k };
      heard = λ place c there stays.
          let s = clients.seated.each place c there in
          record { lines = s.lines stays; replies = sym (s.all stays); bytes = s.bytes stays; used = s.used };
      settled = λ e. (register.settled e, clients.settled e);
      once = register.once;
      replies = register.replies;
      known = register.fits.fit.knows;
      owners = register.owners;
    }
