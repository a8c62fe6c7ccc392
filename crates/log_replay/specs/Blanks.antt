-- The blank page of a source, whoever keeps it.
use Rattle.std.specs.Prelude.{◌≡◌}
use Rattle.page_store.specs.Image.{blank_image}
use Rattle.log_replay.specs.declared.log_pages.Blank.{Blank}
use Rattle.log_replay.specs.declared.log_pages.Blank.TheVariants.{Lent, Own}

abbrev pub IsBlank : Blank → Type 0
IsBlank (Lent page) = page.now ≡ blank_image
IsBlank (Own page) = page ≡ blank_image
