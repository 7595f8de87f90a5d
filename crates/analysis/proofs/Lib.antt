pub mod Given
pub mod Tops
pub mod Said
pub mod Cored
pub mod Sought
pub mod BoundsPut
pub mod Tabled
