-- `planes::Planes::map` meets its contract, plane by plane.
use Rattle.planes.proofs.ByteWords.{eight}
use Rattle.planes.proofs.Planes.map.Goals as goal

pub returns : goal.returns
returns g c =
    eight _ c.f.ensures c.f-2.ensures c.f-3.ensures c.f-4.ensures c.f-5.ensures c.f-6.ensures c.f-7.ensures c.f-8.ensures
