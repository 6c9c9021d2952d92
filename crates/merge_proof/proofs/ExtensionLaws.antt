-- The laws of store extension on which the lemmas rest.
use Rattle.world_simulation.specs.StoreExtension.{StoresExtendThemselves, ExtensionIsTransitive, StepsExtend, OwnSegmentsExtend, SegmentsExtend}

pub record ExtensionLaws : Type 0 where
  pub reflexive : StoresExtendThemselves
  pub transitive : ExtensionIsTransitive
  pub step : StepsExtend
  pub own_segments : OwnSegmentsExtend
  pub segments : SegmentsExtend
