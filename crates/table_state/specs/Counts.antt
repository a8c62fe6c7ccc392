-- What the meta page tells, as it is read from any page. The next genid and the number of pages are to be below 2^62.
use Rattle.std.specs.Prelude.{◌^◌, ◌&&◌, Bool, if◌then◌else◌, nat_lt, Option, None, Some}
use Rattle.page_store.specs.Image.{Image}
use Rattle.page_workspace.specs.declared.metas.Meta.{Meta}
use Rattle.page_workspace.specs.Metas.{meta_in}

-- whether the next genid and the number of pages are below 2^62
abbrev pub are_small : Meta → Bool
are_small meta = nat_lt meta.next (2 ^ 62) && nat_lt meta.count (2 ^ 62)

-- what is told, where its numbers are small
abbrev pub if_small : Option Meta → Option Meta
if_small None = None
if_small (Some meta) = if are_small meta then Some meta else None

-- what a page tells, where it is a meta page and its numbers are small
abbrev pub told : Image → Option Meta
told image = if_small (meta_in image)
