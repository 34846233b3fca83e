mod RequestLaws
mod Left
mod Found
mod Opened
mod Mended
mod OwnList
